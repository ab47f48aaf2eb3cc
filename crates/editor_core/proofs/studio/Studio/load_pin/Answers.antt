-- A pin is loaded as it was pinned, in a step that changes nothing.
use Rattle.editor_core.proofs.Common.{◌≡◌, ◌∙◌, refl, sym, ap, subst, ℕ, List, Some, Err, arith, true≢false, IsOk}
use Rattle.editor_core.proofs.Common.{err_from_is_err_and, LoadPin, Refusal, sources_of, meant, core_of, Pin, IsHeld}
use Rattle.editor_core.proofs.Common.{LacksPin, MayFind, pin_may_read, pin_whole, idle_looks, read_looks}
use Rattle.mixdown.specs.{declared.loaded.Loaded.Loaded, Loads.Shows, Loads.tracks_in}
use Rattle.mix_reader.specs.declared.loads.LoadFault.{LoadFault}
use Rattle.mix_reader.specs.declared.loads.LoadFault.TheVariants.{Block, NoMemory}
use Rattle.mix_reader.specs.Heard.{disk_part, refusal_of}
use Rattle.editor_views.specs.{Loads.Ask, Loads.Loads}
use Rattle.mix_reader.proofs.HeardLaws.{no_frame}
use Rattle.editor_views.proofs.PinLoads.{load_done, load_lacks, load_looks, load_stopped, load_wanting, loaded_many}
use Rattle.pcm_base.specs.declared.answer.Reply.TheVariants as reply
use Rattle.pcm_base.specs.declared.refusal.Refusal.TheVariants as refusal
use Rattle.editor_core.proofs.KeptPages.{of_pin}
use Rattle.editor_core.proofs.studio.Studio.load_pin.Given.{Over}
use Rattle.editor_core.proofs.studio.Studio.load_pin.Goals.{In_ok-point}
use Rattle.editor_core.proofs.studio.Studio.load_pin.Goals as goal

-- the pin's project
found : (g : Over) (c : In_ok-point g) → MayFind c.args.self.now.pins.items c.args.pin (Some c.in_ok-point.point.now)
found g c = subst (λ (ps : List Pin). MayFind ps c.args.pin (Some c.in_ok-point.point.now)) c.deref.ensures.value
    c.in_ok-point.ensures

pub returns-in-Some-clause-loads : goal.returns-in-Some-clause-loads
returns-in-Some-clause-loads g c =
    let s = core_of c.args.self.now in
    let fewer = g.met.S.Store.may_fewer s.store in
    record {
      looks = idle_looks g.S.Store s (LoadPin c.args.pin c.args.from c.args.n) fewer
          (refusal.Stopped c.in-Some.faults) tt
          (load_stopped g.S.Store s c.requires.studio fewer c.args.pin c.args.from c.args.n c.in-Some.faults
          c.in-Some.is);
      loads = tt;
      has = tt;
      wants = tt;
    }

pub returns-in_err-point-clause-loads : goal.returns-in_err-point-clause-loads
returns-in_err-point-clause-loads g c =
    let p = err_from_is_err_and c.from_residual.result c.from_residual.ensures.1 in
    let s = core_of c.args.self.now in
    let fewer = g.met.S.Store.may_fewer s.store in
    let ask : Ask = record { pin = c.args.pin; from = c.args.from; most = c.args.n } in
    subst (λ r. Loads g.S.Store s ask r c.args.loaded.now s)
    (sym (p.1 ∙ ap Err (p.2 ∙ c.in_err-point.ensures.0))) record {
      looks = idle_looks g.S.Store s (LoadPin c.args.pin c.args.from c.args.n) fewer (refusal.NoPin c.args.pin) tt
          (load_lacks g.S.Store s c.requires.studio fewer c.args.pin c.args.from c.args.n c.in_default.is
          (subst (LacksPin c.args.pin) c.deref.ensures.value c.in_err-point.ensures.1));
      loads = tt;
      has = tt;
      wants = tt;
    }

pub load_stretch-requires-clause-named : goal.load_stretch-requires-clause-named
load_stretch-requires-clause-named g c =
    pin_may_read g.S.Store (core_of c.args.self.now) c.requires.studio c.args.pin c.in_ok-point.point.now
    (found g (goal.at.load_stretch-requires-clause-named g c).In_ok-point)

pub returns-in-Ok-clause-loads : goal.returns-in-Ok-clause-loads
returns-in-Ok-clause-loads g c =
    let s = core_of c.args.self.now in
    let fewer = g.met.S.Store.may_fewer s.store in
    let point = c.in_ok-point.point.now in
    let found = found g (goal.at.returns-in-Ok-clause-loads g c).In_ok-point in
    let cache = c.load_stretch.new.reader.cache in
    let store = c.load_stretch.new.reader.store in
    let loaded : Loaded = c.load_stretch.new.loaded in
    let keeps = of_pin g.S.Store s c.requires.studio cache point c.args.pin found c.in-Ok.ensures.reads.cache in
    let src = sources_of (g.S.Store.reads s.store) in
    let shows : IsHeld g.S.Store s → Shows c.args.from (meant src point) loaded = λ held.
    c.in-Ok.ensures.read held.tells (pin_whole g.S.Store s c.requires.studio c.args.pin point found held) in
    record {
      looks = read_looks g.S.Store s (LoadPin c.args.pin c.args.from c.args.n) store c.in-Ok.ensures.reads.kept cache
          (reply.Loaded (tracks_in loaded))
          (load_done g.S.Store s c.requires.studio fewer c.args.pin c.args.from c.args.n c.in_default.is point found
          store c.in-Ok.ensures.reads.kept cache keeps (tracks_in loaded) c.in-Ok.ensures.reads.faults
          (λ held. loaded_many src point c.args.from c.args.n loaded c.in-Ok.ensures.loaded
          (c.in-Ok.ensures.len ∙ c.in-Ok.ensures.count) (c.load_stretch.ensures.length src) (shows held)));
      loads = record {
        point = point;
        found = found;
        count = c.in-Ok.ensures.count;
        len = c.in-Ok.ensures.len;
        valid = c.in-Ok.ensures.loaded;
        shows = shows;
      };
      has = record {
        len = c.in-Ok.ensures.len;
        few = omega (arith, c.in-Ok.ensures.count);
        valid = c.in-Ok.ensures.loaded;
        silent = no_frame point loaded.gains.items c.args.from c.args.n c.in-Ok.count c.in-Ok.ensures.gains
            c.in-Ok.ensures.count;
      };
      wants = load_wanting g.S.Store s c.requires.studio fewer c.args.pin c.args.from c.args.n c.in_default.is point
          found store c.in-Ok.ensures.reads.kept cache keeps c.in-Ok.ensures.reads.faults;
    }

pub returns-in-Err-clause-loads : goal.returns-in-Err-clause-loads
returns-in-Err-clause-loads g c =
    let s = core_of c.args.self.now in
    let fewer = g.met.S.Store.may_fewer s.store in
    let ask : Ask = record { pin = c.args.pin; from = c.args.from; most = c.args.n } in
    let point = c.in_ok-point.point.now in
    let found = found g (goal.at.returns-in-Err-clause-loads g c).In_ok-point in
    let cache = c.load_stretch.new.reader.cache in
    let store = c.load_stretch.new.reader.store in
    let loaded : Loaded = c.load_stretch.new.loaded in
    let keeps = of_pin g.S.Store s c.requires.studio cache point c.args.pin found c.in-Err.ensures.reads.cache in
    let why : LoadFault = c.in-Err.fault in
    subst (λ (z : Refusal). Loads g.S.Store s ask (Err z) loaded (record s { store = store; cache = cache }))
    (sym c.into.ensures) record {
      looks = load_looks g.S.Store s c.requires.studio fewer c.args.pin c.args.from c.args.n c.in_default.is point
          found store c.in-Err.ensures.reads.kept cache keeps why c.in-Err.ensures.reads.faults
          c.in-Err.ensures.reads.damaged
          (λ held. c.in-Err.ensures.valid held.tells
          (pin_whole g.S.Store s c.requires.studio c.args.pin point found held))
          (λ e. c.load_stretch.ensures.memory (c.in-Err.is ∙ ap Err e));
      loads = tt;
      has = tt;
      wants = tt;
    }

-- what is wanted where it is not the disk that refuses
unread : (why : LoadFault) → IsOk (disk_part {T = ℕ} (Err why)) → refusal_of why ≡ refusal.NoMemory
unread NoMemory is = refl
unread (Block fault) is = absurd (true≢false (sym is))

pub returns-in_err-point-clause-hit : goal.returns-in_err-point-clause-hit
returns-in_err-point-clause-hit g c = λ going has.
    absurd (has.there (subst (LacksPin c.args.pin) c.deref.ensures.value c.in_err-point.ensures.1))

pub returns-in-Ok-clause-hit : goal.returns-in-Ok-clause-hit
returns-in-Ok-clause-hit g c = λ going has.
    let kept = c.in-Ok.ensures.hit (has.heard c.in_ok-point.point.now
    (found g (goal.at.returns-in-Ok-clause-hit g c).In_ok-point)) in
    (tt, kept.1, kept.2)

pub returns-in-Err-clause-hit : goal.returns-in-Err-clause-hit
returns-in-Err-clause-hit g c = λ going has.
    let kept = c.in-Err.ensures.hit (has.heard c.in_ok-point.point.now
    (found g (goal.at.returns-in-Err-clause-hit g c).In_ok-point)) in
    (c.into.ensures ∙ unread c.in-Err.fault kept.0, kept.1, kept.2)
