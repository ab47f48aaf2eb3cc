-- The pieces of some chunks are one turn of the seat, and a reclaim after it another.
use Rattle.studio_seats.proofs.Common.{◌≡◌, ◌+◌, ◌-◌, ◌≤◌, List, ℤ, ℕ, Bool, take, sym, ◌∙◌, subst, false, arith}
use Rattle.studio_seats.proofs.Common.{IfErr, IfOk, is_err, Done, Piece, known, silent, as_reply, AreTaken, samples_of}
use Rattle.studio_seats.proofs.Common.{Says, asked, start_at, views, pieces_by, RecordsOn, recorder, origin}
use Rattle.studio_seats.proofs.Batches.{are_taken, if_ok_as, taken_err, taken_is_err, taken_ok, taken_on, tried_first}
use Rattle.studio_seats.proofs.PieceLemmas.{tagged, takes_both}
use Rattle.studio_seats.proofs.RecordingLemmas.{number_free, pieces_free, records_free, records_turn}
use Rattle.studio_seats.proofs.taker.DeskTakerPieceTaker.take_pieces.Goals as goal

pub invariant_of-self : goal.invariant_of-self
invariant_of-self g c =
    let s = c.args.self.now in
    let tried = c.pieces-tried.result in
    let joined : List ℤ = take c.join_chunks-joined.result c.join_chunks-joined.new.batch in
    let samples : List ℤ = take tried.count joined in record {
      at = c.count_pieces-self.ensures.same;
      tagged = (
        s.tagged.0,
        number_free s.track s.tag (known c.pieces-tried.new.seat) (known c.count_pieces-self.new.seat) false _ _
            (start_at s.desk.now).commit_number s.tag c.count_pieces-self.ensures.frees
            (tagged g.S.Store g.V.Vault (start_at s.desk.now) s.track s.tag samples (known s.seat)
            (known c.pieces-tried.new.seat) tried.said s.tag c.pieces-tried.ensures.says s.tagged.1),
      );
      few = c.count_pieces-self.ensures.few;
    }

pub count_pieces-self-requires-clause-few : goal.count_pieces-self-requires-clause-few
count_pieces-self-requires-clause-few g c =
    let s = c.args.self.now in
    let j = c.join_chunks-joined in
    let first = tried_first c.args.chunks.now j.new.batch j.result c.pieces-tried.result.count (64 - s.since)
    (omega (arith, j.ensures.wide, j.ensures.bound)) j.ensures.pieces j.ensures.known j.ensures.few
    c.pieces-tried.ensures.count in
    let few = first.few in
    omega (arith, few, s.few, c.pieces_in-pieces.ensures)

pub returns-clause-taken : goal.returns-clause-taken
returns-clause-taken g c =
    let s = c.args.self.now in
    let number = (start_at s.desk.now).commit_number in
    let j = c.join_chunks-joined in
    let tried = c.pieces-tried.result in
    let samples : List ℤ = take tried.count (take j.result j.new.batch) in
    let first = tried_first c.args.chunks.now j.new.batch j.result tried.count (64 - s.since)
    (omega (arith, j.ensures.wide, j.ensures.bound)) j.ensures.pieces j.ensures.known j.ensures.few
    c.pieces-tried.ensures.count in
    let mid = known c.pieces-tried.new.seat in
    let end = known c.count_pieces-self.new.seat in
    let old = pieces_by s.track s.tag (known s.seat).number number (known s.seat).seen in
    let new = pieces_by s.track s.tag end.number number end.seen in
    let same = pieces_free s.track s.tag mid end false _ _ number c.count_pieces-self.ensures.frees in
    taken_ok c.taken_of-what.result c.pieces_in-pieces.result tried.said.what c.taken_of-what.ensures
    (AreTaken old (samples_of c.args.chunks.now) new)
    (subst (λ (n : ℕ). IfOk tried.said.what (λ (last : ℕ).
    AreTaken old (samples_of c.args.chunks.now) new record { count = n; last = last }))
    (sym c.pieces_in-pieces.ensures)
    (if_ok_as tried.said.what _ _
    (λ last h. are_taken old new c.args.chunks.now samples _ (64 - s.since) last first h.1 (same ∙ h.0))
    (takes_both g.S.Store g.V.Vault (start_at s.desk.now) s.track s.tag samples (known s.seat) mid tried.said
    c.pieces-tried.ensures.says c.pieces-tried.ensures.number).0))

pub returns-clause-unrefused : goal.returns-clause-unrefused
returns-clause-unrefused g c = taken_on c.taken_of-what.result c.pieces_in-pieces.result
    c.pieces-tried.result.said.what c.taken_of-what.ensures _ c.first_of-self.ensures.unrefused

pub returns-clause-left : goal.returns-clause-left
returns-clause-left g c =
    let s = c.args.self.now in
    let number = (start_at s.desk.now).commit_number in
    let tried = c.pieces-tried.result in
    let samples : List ℤ = take tried.count (take c.join_chunks-joined.result c.join_chunks-joined.new.batch) in
    let mid = known c.pieces-tried.new.seat in
    let end = known c.count_pieces-self.new.seat in
    taken_err c.taken_of-what.result c.pieces_in-pieces.result tried.said.what c.taken_of-what.ensures _
    (subst (λ (l : List (List ℤ × ℕ)). IfErr tried.said.what (λ reason.
    l ≡ pieces_by s.track s.tag (known s.seat).number number (known s.seat).seen))
    (sym (pieces_free s.track s.tag mid end false _ _ number c.count_pieces-self.ensures.frees))
    (takes_both g.S.Store g.V.Vault (start_at s.desk.now) s.track s.tag samples (known s.seat) mid tried.said
    c.pieces-tried.ensures.says c.pieces-tried.ensures.number).1)

pub returns-clause-refusal : goal.returns-clause-refusal
returns-clause-refusal g c = taken_err c.taken_of-what.result c.pieces_in-pieces.result
    c.pieces-tried.result.said.what c.taken_of-what.ensures _ c.first_of-self.ensures.refusal

pub returns-clause-goes : goal.returns-clause-goes
returns-clause-goes g c = λ first h.
    let s = c.args.self.now in
    let j = c.join_chunks-joined in
    let samples : List ℤ = take c.pieces-tried.result.count (take j.result j.new.batch) in
    let firsts = tried_first c.args.chunks.now j.new.batch j.result c.pieces-tried.result.count (64 - s.since)
    (omega (arith, j.ensures.wide, j.ensures.bound)) j.ensures.pieces j.ensures.known j.ensures.few
    c.pieces-tried.ensures.count in
    let many = firsts.many ∙ sym c.pieces_in-pieces.ensures in
    let said = c.pieces-tried.result.said in
    let mid = known c.pieces-tried.new.seat in
    let end = known c.count_pieces-self.new.seat in
    let low = firsts.few in
    let few : s.since + c.pieces_in-pieces.result ≤ 64 = omega (arith, low, s.few, c.pieces_in-pieces.ensures) in
    let named = subst (λ (z : ℕ × ℕ). Says (origin g.S.Store g.V.Vault (start_at s.desk.now))
    (asked (Piece z.0 z.1 samples) (as_reply (λ (n : ℕ). Done) said.what) silent) said (views (known s.seat) mid))
    (λ i. (h.1 i, h.2 i)) c.pieces-tried.ensures.says in (
      h.0,
      h.1,
      h.2,
      records_free first.track first.tag mid end (is_err c.taken_of-what.result)
          (recorder (known first.seat) first.refused first.since) c.first_of-self.result _
          (subst (λ (b : Bool). RecordsOn first.track first.tag false b
          (recorder (known first.seat) first.refused first.since)
          (recorder mid c.first_of-self.result (s.since + c.pieces_in-pieces.result)))
          (sym (taken_is_err c.taken_of-what.result c.pieces_in-pieces.result said.what c.taken_of-what.ensures))
          (records_turn first.track first.tag g.S.Store g.V.Vault (start_at s.desk.now)
          (recorder (known first.seat) first.refused first.since) (known s.seat) mid s.refused c.first_of-self.result
          s.since c.pieces_in-pieces.result samples many few h.3 said named c.first_of-self.ensures.unrefused
          c.first_of-self.ensures.refusal))
          false c.count_pieces-self.result c.count_pieces-self.ensures.frees,
    )
