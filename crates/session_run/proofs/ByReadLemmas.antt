-- A session over a vault that does not report its bytes, by the sounds that its imports read.
use Rattle.session_run.proofs.Common.{refl, sym, ap, subst, List, [], ◌∷◌, Call, Each, telling, Deed, DeedsAsk, AllTell}
use Rattle.session_run.proofs.Common.{Kinds}
use Rattle.studio_seats.specs.Imports.{AreReadAs}
use Rattle.studio_seats.proofs.ImportLemmas.{imports_lead}
use Rattle.session_run.specs.ByRead.{RunsByRead}
use Rattle.session_run.proofs.ApartLemmas.{IsTagged, all_tagged, deeds_apart}
use Rattle.session_run.proofs.SurviveLemmas.{survives}

-- the calls are the same
read_calls : (P : Call → Type 0) (ds es : List Deed) → AreReadAs ds es → Each (λ (d : Deed). P d.call) ds
    → Each (λ (d : Deed). P d.call) es
read_calls P [] [] are each = tt
read_calls P [] (e ∷ es) are each = absurd are
read_calls P (d ∷ ds) [] are each = absurd are
read_calls P (d ∷ ds) (e ∷ es) are each =
    (subst P (sym (ap (λ (z : Deed). z.call) are.0.same)) each.0, read_calls P ds es are.1 each.1)

pub runs_by_read : {D V M P : Type 0} (k : Kinds D V M P) → DeedsAsk k.disk telling → RunsByRead k
runs_by_read k ask store start final j opens honest ran readable =
    let s = ran.session in
    let by = imports_lead k.disk k.vaults start final s.deeds s.stands readable in
    let held = opens.held honest in
    let told : AllTell telling = λ v. refl in
    let stays = survives k.disk telling ask store start final by.read opens by.stands honest told in
    record {
      read = by.read;
      are = by.are;
      holds = by.leads.held by.told held;
      run = by.leads.run by.told held;
      piece_by_piece = deeds_apart k.disk telling start by.read final by.stands.chain told held by.stands.began
          (read_calls IsTagged s.deeds by.read by.are
          (all_tagged s.spent start.commit_number start.next_track ran.out.opened s.deeds s.numbers.opening_rises
          s.made));
      whole = by.leads.whole by.told held;
      any_moment = stays.any_moment;
      going = stays.going;
      broken = stays.stopped;
    }
