-- The studio made the call, so the turn made the list longer by its deed.
use Rattle.studio_seats.proofs.Common.{◌≡◌, ◌⊎◌, inl, ℕ, ◌<◌, [], ◌∙◌, refl, sym, ap, subst, length, take, start_of}
use Rattle.studio_seats.proofs.Common.{asked, silent, as_reply, Call, Reply}
use Rattle.studio_seats.proofs.Grown.{does_silent}
use Rattle.studio_seats.proofs.Turns.{either_way, fits, is_studio, says, tag_fits}
use Rattle.studio_seats.proofs.desk.Desk.try_pieces.Goals as goal

pub with-requires-clause-fits : goal.with-requires-clause-fits
with-requires-clause-fits g c = fits g.S.Store g.V.Vault _ _ _ _
    (λ f'. Call.Piece c.args.next.track c.args.next.tag (take f'.4.now c.args.next.samples.now))
    (λ s f'. as_reply (λ _. Reply.Done) s.what) (λ f'. silent)
    (λ more x others stood y is. (
      is_studio g.S.Store g.V.Vault (start_of c.args.self.now.turn) x y.now _ stood is,
      (
        (
          c.requires.tag.0,
          tag_fits g.S.Store g.V.Vault
              (start_of c.args.self.now.turn) x y.now c.args.next.tag _ more c.requires.tag.1 stood is,
        ),
        c.requires.few,
      ),
    ))
    (λ s f' x x' called. does_silent g.S.Store _ _
    (Call.Piece c.args.next.track c.args.next.tag (take f'.4.now c.args.next.samples.now)) _ [] _ refl
    called.called.met.1.0)

pub returns-clause-says : goal.returns-clause-says
returns-clause-says g c = says g.S.Store g.V.Vault _ _ _ _
    (λ f'. Call.Piece c.args.next.track c.args.next.tag (take f'.4.now c.args.next.samples.now))
    (λ s f'. as_reply (λ _. Reply.Done) s.what) (λ f'. silent) _
    (λ s. asked (Call.Piece c.args.next.track c.args.next.tag (take c.count-1.given.0 c.args.next.samples.now))
    (as_reply (λ _. Reply.Done) s.what) silent) _ _ _ c.with.ensures.turned c.said_by.ensures
    (λ s x x' called. record {
      does = does_silent g.S.Store _ _ (Call.Piece c.args.next.track c.args.next.tag (take _ c.args.next.samples.now))
          _ [] _ refl called.called.met.1.0;
      number = called.called.met.1.1.0;
      is = ap (λ (n : ℕ). asked (Call.Piece c.args.next.track c.args.next.tag (take n c.args.next.samples.now))
          (as_reply (λ _. Reply.Done) s.what) silent) (sym (c.count-1.given.1 (sym called.called.met.0.4)));
    })

pub returns-clause-count : goal.returns-clause-count
returns-clause-count g c =
    let all : ℕ = length c.args.next.samples.now in
    either_way g.S.Store g.V.Vault _ _ _ _ _ _ _ _ _ c.with.ensures.turned
    (λ same. inl (c.count-1.given.1 (sym (λ i. (same i).4.ghost_name)) ∙ (λ i. (same i).4.now) ∙ c.requires.whole))
    (λ s x x' called. subst (λ (n : ℕ). (n ≡ all) ⊎ ((n ≡ 256) × (256 < all)))
    (sym (c.count-1.given.1 (sym called.called.met.0.4))) called.called.met.1.1.1.1)
