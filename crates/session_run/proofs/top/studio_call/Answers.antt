-- The call.
use Rattle.session_run.proofs.Common.{refl, ap, ◌∙◌, if◌then◌else◌, Bool, List, RamStore, Text, words_of, change, Kinds}
use Rattle.session_run.proofs.Common.{kinds, Does, EndsAs, HasCause, Promises, World, any_rose, counts, Handed, handed}
use Rattle.session_run.proofs.Common.{FaultCounts, Done}
use Rattle.std.proofs.Common.{rules, map}
use Rattle.std.specs.Prelude.{string_bytes}
use Rattle.session_run.proofs.CallPromise.{ended_as, ending_of, promises}
use Rattle.session_run.proofs.{BackLemmas.back_to, BackLemmas.read_back, FourLemmas.four_only, StatusLemmas.failed_four}
use Rattle.session_run.proofs.{StatusLemmas.four_failed}
use Rattle.memory_disk.specs.contracts.ram.RamStoreStore.TheImpl as ram
use Rattle.session_run.proofs.top.studio_call.Goals as goal

-- The facts are of the devices that came back from `carry_out`; `back_to` has them of those that were lent.
pub returns : goal.returns
returns g c =
    let a = c.args in
    let done = c.carry_out-done.result.0 in
    let d = c.carry_out-done.result.1 in
    let rose = c.any_rose.ensures ∙ (λ i. any_rose (c.count_faults-before.ensures i) (c.count_faults-now.ensures i)) in
    let status = c.status_of.ensures ∙ ap (λ (b : Bool). if b then 4 else done.status) rose in
    let four = c.status_of.result in
    let ends = ended_as _ done four d.mic.now d.speaker.now status in
    let k : Kinds g.row.S.Denot g.row.V.Denot g.row.M.Denot g.row.P.Denot =
    kinds g.S.Store g.V.Vault g.M.Source g.P.Sink in
    let w : World RamStore g.row.S.Denot g.row.V.Denot g.row.M.Denot g.row.P.Denot =
    record { ram = ram.ghosts; kinds = k } in
    let texts : List Text = map string_bytes a.words.now in
    let h : Handed g.row.S.Denot g.row.V.Denot g.row.M.Denot g.row.P.Denot =
    handed g.A.Source g.O.Sink (change a.script.now d.streams.script.now) (change a.out.now d.streams.out.now) a.store
    (change a.vault.now d.vault.now) (change a.mic d.mic.now) (change a.speaker d.speaker.now) in
    let old : FaultCounts = counts g.A.Source g.O.Sink k a.script.now a.out.now a.store a.vault.now a.mic a.speaker in
    let new : FaultCounts = counts g.A.Source g.O.Sink k d.streams.script.now d.streams.out.now done.store d.vault.now
    d.mic.now d.speaker.now in
    let only = four_only g.A.Source g.O.Sink k (change a.script.now d.streams.script.now)
    (change a.out.now d.streams.out.now) (change a.store done.store) (change a.vault.now d.vault.now)
    (change a.mic d.mic.now) (change a.speaker d.speaker.now) ram.ghosts texts done c.carry_out-done.ensures.does refl _
    status in record {
      does = back_to (λ z. (left : Done g.row.S.Denot) × Does w texts
          (handed g.A.Source g.O.Sink (change a.script.now z.0) (change a.out.now z.1) a.store (change a.vault.now z.2)
          (change a.mic z.3) (change a.speaker z.4)) left
          × EndsAs (any_rose old (counts g.A.Source g.O.Sink k z.0 z.1 done.store z.2 z.3 z.4)) left
          (ending_of done four z.3 z.4))
          (search rules) (search rules) (search rules) (search rules) (search rules)
          (done, c.carry_out-done.ensures.does, ends);
      promise = back_to (λ z. Promises k texts
          (handed g.A.Source g.O.Sink (change a.script.now z.0) (change a.out.now z.1) a.store (change a.vault.now z.2)
          (change a.mic z.3) (change a.speaker z.4)) (ending_of done four z.3 z.4))
          (search rules) (search rules) (search rules) (search rules) (search rules)
          (promises w c.deeds_ask.ensures texts h _ done _ c.carry_out-done.ensures.does ends
          (λ records plays is. record {
            failed = four_failed old new four done.status status;
            status = failed_four old new (words_of texts) four only records plays is;
          }));
      only = back_to (λ z. HasCause (words_of texts) old
          (counts g.A.Source g.O.Sink k z.0 z.1 done.store z.2 z.3 z.4) four)
          (search rules) (search rules) (search rules) (search rules) (search rules) only;
      reads = read_back g.A.Source (search rules) c.carry_out-done.ensures.reads;
    }
