-- Records that lead to a project, and more; the journal begins as before.
use Rattle.editor_state.proofs.Common.{rules, subst, ℕ, List, [], ◌∷◌, ◌++◌, Log, with_bodies, Begins, Saved, LeadIn}
use Rattle.record_body.specs.Saved.{BeginsBy, after_body}

pub lead_all : (version m : ℕ) (k mid end : Saved) (bodies more : List (List ℕ)) → LeadIn version m k bodies mid
    → LeadIn version m mid more end → LeadIn version m k (bodies ++ more) end
lead_all version m k mid end [] more is led = subst (λ (z : Saved). LeadIn version m z more end) is led
lead_all version m k mid end (b ∷ bs) more h led =
    (h.0, h.1, lead_all version m (after_body k h.0) mid end bs more h.2 led)

begins_by : (points : List (List ℕ)) (log : Log) (bodies : List (List ℕ)) (base : Saved) → BeginsBy points log base
    → BeginsBy points (with_bodies log bodies) base
begins_by [] log bodies base is = is
begins_by (p ∷ ps) log bodies base is = search rules

pub begins_more : (log : Log) (bodies : List (List ℕ)) (base : Saved) → Begins log base
    → Begins (with_bodies log bodies) base
begins_more log = begins_by log.points log
