-- Records lead to one project at most.
use Rattle.record_body.proofs.Common.{◌≡◌, ℕ, zero, suc, ◌≤◌, ◌<◌, ◌^◌, List, [], ◌∷◌, sym, ap, subst, ◌∙◌, Saved}
use Rattle.record_body.proofs.Common.{before_of, after_body, current_tracks, IsNextIn, LeadIn, Body, body_at}
use Rattle.record_body.specs.Saved.{IsNext}
use Rattle.record_body.proofs.{ReadBack.read_back, SaysOnce.says_once}

-- what its bytes say
pub body_is : (m : ℕ) (k : Saved) (bytes : List ℕ) (body : Body) → 4 ≤ m → m < 2 ^ 32 → IsNext m k bytes body
    → body ≡ body_at bytes
body_is m k bytes body least most next =
    sym (read_back m (before_of k) body least most next.valid).1 ∙ ap body_at (sym next.spelled)

pub body_once : (m : ℕ) (k : Saved) (bytes : List ℕ) (a b : Body) → 4 ≤ m → m < 2 ^ 32 → IsNext m k bytes a
    → IsNext m k bytes b → a ≡ b
body_once m k bytes a b least most p q = body_is m k bytes a least most p ∙ sym (body_is m k bytes b least most q)

pub body_once_in : (version m : ℕ) (k : Saved) (bytes : List ℕ) (a b : Body) → 4 ≤ m → m < 2 ^ 32
    → IsNextIn version m k bytes a → IsNextIn version m k bytes b → a ≡ b
body_once_in zero m k bytes a b least most p q = body_once m k bytes a b least most p q
body_once_in (suc zero) m k bytes a b least most p q = body_once m k bytes a b least most p q
body_once_in (suc (suc version)) m k bytes a b least most p q =
    says_once (current_tracks k.history) bytes a b p.says q.says

pub lead_once_in : (version m : ℕ) (bodies : List (List ℕ)) (k a b : Saved) → 4 ≤ m → m < 2 ^ 32
    → LeadIn version m k bodies a → LeadIn version m k bodies b → a ≡ b
lead_once_in version m [] k a b least most p q = p ∙ sym q
lead_once_in version m (bytes ∷ bodies) k a b least most p q =
    let same : p.0 ≡ q.0 = body_once_in version m k bytes p.0 q.0 least most p.1 q.1 in
    let p2 : LeadIn version m (after_body k q.0) bodies a =
    subst (λ (x : Body). LeadIn version m (after_body k x) bodies a) same p.2 in
    lead_once_in version m bodies (after_body k q.0) a b least most p2 q.2
