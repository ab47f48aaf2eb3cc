-- A studio of what was found, and what an honest disk has of it.
use Rattle.editor_recovery.proofs.Common.{◌≤◌, Ok, Err, subst, Log, HasLog, IsAt}
use Rattle.editor_recovery.proofs.Common.{EachNow, IsDurable, Form, IsForm, each_has, Keeps, history_blocks, assembled}
use Rattle.editor_recovery.proofs.Common.{HaveOneLength, shown, studio_of, OpensHonest, Causes, IsNew}
use Rattle.editor_recovery.proofs.Common.{found_in, Opens}
use Rattle.editor_recovery.specs.Honest.{FindsSaved}
use Rattle.editor_recovery.proofs.Assembled.{answers, each, new_studio, same_store, shows_found}
use Rattle.editor_recovery.proofs.{Created.still_honest, Honest.found_saved, Honest.has_parts}
use Rattle.editor_recovery.proofs.opening.open_store.Goals as goal

pub returns-in-Ok-clause-opens : goal.returns-in-Ok-clause-opens
returns-in-Ok-clause-opens g c = λ tells.
    let store = c.open_parts.new.store in
    answers store c.in-Ok.parts (Opens (g.S.Store.reads c.args.store)) c.make_studio.result
    c.make_studio.ensures.fields c.make_studio.ensures.refused (c.in-Ok.ensures.opens tells) tt

pub returns-in-Ok-clause-fresh : goal.returns-in-Ok-clause-fresh
returns-in-Ok-clause-fresh g c =
    let store = c.open_parts.new.store in
    each store c.in-Ok.parts IsNew c.make_studio.result c.make_studio.ensures.fields (new_studio store c.in-Ok.parts)

pub returns-in-Ok-clause-one_length : goal.returns-in-Ok-clause-one_length
returns-in-Ok-clause-one_length g c =
    each c.open_parts.new.store c.in-Ok.parts (λ s. HaveOneLength (history_blocks s.history)) c.make_studio.result
    c.make_studio.ensures.fields c.in-Ok.ensures.valid.one_length

pub returns-in-Ok-clause-durable : goal.returns-in-Ok-clause-durable
returns-in-Ok-clause-durable g c =
    each c.open_parts.new.store c.in-Ok.parts (λ s. IsDurable g.S.Store s.store 0) c.make_studio.result
    c.make_studio.ensures.fields c.in-Ok.ensures.durable

pub returns-in-Ok-clause-other : goal.returns-in-Ok-clause-other
returns-in-Ok-clause-other g c =
    each c.open_parts.new.store c.in-Ok.parts (λ s. IsDurable g.S.Store s.store 1) c.make_studio.result
    c.make_studio.ensures.fields c.in-Ok.ensures.other

pub returns-in-Ok-clause-at_rest : goal.returns-in-Ok-clause-at_rest
returns-in-Ok-clause-at_rest g c = λ tells.
    each c.open_parts.new.store c.in-Ok.parts
    (λ s. (form : Form) (log : Log) → IsForm form → form.file ≤ 1 → HasLog form log (g.S.Store.reads c.args.store)
    → IsAt form g.S.Store s.store s.journal_end log)
    c.make_studio.result c.make_studio.ensures.fields (c.in-Ok.ensures.at_rest tells)

pub returns-in-Ok-clause-honest : goal.returns-in-Ok-clause-honest
returns-in-Ok-clause-honest g c = λ honest.
    let old = c.args.store in
    let store = c.open_parts.new.store in
    let r = c.make_studio.result in
    let stays = g.met.S.Store.may_stay old honest.model in
    rw (same_store store c.in-Ok.parts r c.make_studio.ensures.fields c.make_studio.ensures.refused)
    (answers store c.in-Ok.parts (OpensHonest g.S.Store old store) r c.make_studio.ensures.fields
    c.make_studio.ensures.refused
    (found_saved g.S.Store old store honest stays.1 c.open_parts.ensures.changed.images (Ok (found_in c.in-Ok.parts))
    (c.in-Ok.ensures.opens stays.0) (λ form log known few has f e. each_has (c.in-Ok.ensures.at_rest stays.0 form log known few has))) tt)

pub returns-in-Ok-clause-held : goal.returns-in-Ok-clause-held
returns-in-Ok-clause-held g c = λ honest.
    let old = c.args.store in
    let store = c.open_parts.new.store in
    let stays = g.met.S.Store.may_stay old honest.model in
    let opens = c.in-Ok.ensures.opens stays.0 in
    let still = still_honest g.S.Store old store c.open_parts.ensures.changed.images
    c.open_parts.ensures.changed.model honest in
    c.make_studio.ensures.held (has_parts g.S.Store old store honest stays.1 c.open_parts.ensures.changed.images
    c.in-Ok.parts opens c.open_parts.ensures.reads (g.met.S.Store.may_stay store still.model).0
    (c.in-Ok.ensures.at_rest stays.0 opens.form opens.log opens.project.stands.known opens.project.stands.few
    opens.project.stands.there))

pub returns-in-Ok-clause-keeps : goal.returns-in-Ok-clause-keeps
returns-in-Ok-clause-keeps g c = λ honest.
    let old = c.args.store in
    let store = c.open_parts.new.store in
    let p = c.in-Ok.parts in
    let stays = g.met.S.Store.may_stay old honest.model in
    let opens = c.in-Ok.ensures.opens stays.0 in
    let found : FindsSaved g.S.Store old store (found_in p) =
    found_saved g.S.Store old store honest stays.1 c.open_parts.ensures.changed.images (Ok (found_in p)) opens
    (λ form log known few has f e. each_has (c.in-Ok.ensures.at_rest stays.0 form log known few has)) in
    each store p (λ s. EachNow g.S.Store s.store (λ image. Keeps image (shown (studio_of g.S.Store s))))
    c.make_studio.result c.make_studio.ensures.fields
    (λ image now. subst (Keeps image)
    (shows_found g.S.Store (assembled store p) (g.S.Store.reads old) found.form found.log found.kept found.found
    c.open_parts.ensures.reads) (found.each image now))

pub returns-in-Ok-clause-stays_honest : goal.returns-in-Ok-clause-stays_honest
returns-in-Ok-clause-stays_honest g c = λ honest.
    rw (same_store c.open_parts.new.store c.in-Ok.parts c.make_studio.result c.make_studio.ensures.fields
    c.make_studio.ensures.refused)
    (still_honest g.S.Store c.args.store c.open_parts.new.store c.open_parts.ensures.changed.images
    c.open_parts.ensures.changed.model honest)

pub returns-in-Ok-clause-cause : goal.returns-in-Ok-clause-cause
returns-in-Ok-clause-cause g c =
    let old = c.args.store in
    let store = c.open_parts.new.store in
    let r = c.make_studio.result in
    rw (same_store store c.in-Ok.parts r c.make_studio.ensures.fields c.make_studio.ensures.refused)
    (answers store c.in-Ok.parts (Causes g.S.Store old store) r c.make_studio.ensures.fields
    c.make_studio.ensures.refused c.in-Ok.ensures.cause c.in-Ok.ensures.cause)

pub returns-in-Ok-clause-reads : goal.returns-in-Ok-clause-reads
returns-in-Ok-clause-reads g c =
    rw (same_store c.open_parts.new.store c.in-Ok.parts c.make_studio.result c.make_studio.ensures.fields
    c.make_studio.ensures.refused) c.open_parts.ensures.reads

pub returns-in-Ok-clause-changed : goal.returns-in-Ok-clause-changed
returns-in-Ok-clause-changed g c =
    rw (same_store c.open_parts.new.store c.in-Ok.parts c.make_studio.result c.make_studio.ensures.fields
    c.make_studio.ensures.refused) c.open_parts.ensures.changed

pub returns-in-Err-clause-honest : goal.returns-in-Err-clause-honest
returns-in-Err-clause-honest g c = λ honest.
    let stays = g.met.S.Store.may_stay c.args.store honest.model in
    found_saved g.S.Store c.args.store c.open_parts.new.store honest stays.1 c.open_parts.ensures.changed.images
    (Err c.in-Err.fault) (c.in-Err.ensures.opens stays.0) (λ form log known few has f e. absurd cc)

pub returns-in-Err-clause-stays_honest : goal.returns-in-Err-clause-stays_honest
returns-in-Err-clause-stays_honest g c = λ honest.
    still_honest g.S.Store c.args.store c.open_parts.new.store c.open_parts.ensures.changed.images
    c.open_parts.ensures.changed.model honest
