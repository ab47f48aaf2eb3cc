-- What becomes of a sound, call by call.
use Rattle.sound_bounce.proofs.Common.{◌≡◌, inl, inr, ℕ, ◌+◌, ◌≤◌, Bool, List, ◌++◌, length, take, Option, Some, refl}
use Rattle.sound_bounce.proofs.Common.{sym, ◌∙◌, ap, subst, arith, append_assoc, Result, Ok, Err, MatchResult}
use Rattle.sound_bounce.proofs.Common.{append-nil, take_all, take-append_seam, IsTrue, OnOk, OnErr, SameElsewhere}
use Rattle.sound_bounce.proofs.Common.{MayHaveGrown, Rose, sound_bytes, IsThere, GrowFails, Grows, Keeps, moved, []}
use Rattle.std.proofs.{Common.length-append, lemmas.List.take-append-le, Math.Seq.take-append-add}
use Rattle.pcm_base.specs.Causes.{HasCause}
use Rattle.edit_ports.specs.declared.vault.Vault as vault

-- a part more may have come, or the front of it
grown_after : (old mid new : Option (List ℕ)) (done buffer : List ℕ) → mid ≡ Some (sound_bytes old ++ done)
    → MayHaveGrown buffer mid new → MayHaveGrown (done ++ buffer) old new
grown_after old mid new done buffer before (inl same) =
    inr (
      length done,
      omega (arith, length-append done buffer),
      same ∙ before ∙ ap (λ xs. Some (sound_bytes old ++ xs)) (sym (take-append_seam done buffer)),
    )
grown_after old mid new done buffer before (inr (n, le, is)) =
    inr (
      length done + n,
      omega (arith, le, length-append done buffer),
      is ∙ ap (λ o. Some (sound_bytes o ++ take n buffer)) before
          ∙ ap Some (append_assoc (sound_bytes old) done (take n buffer))
          ∙ ap (λ xs. Some (sound_bytes old ++ xs)) (sym (take-append-add done buffer n)),
    )

-- of what would have been a longer part
pub grown_less : (old new : Option (List ℕ)) (bytes more : List ℕ) → MayHaveGrown bytes old new
    → MayHaveGrown (bytes ++ more) old new
grown_less old new bytes more (inl same) = inl same
grown_less old new bytes more (inr (n, le, is)) =
    inr (
      n,
      omega (arith, le, length-append bytes more),
      is ∙ ap (λ xs. Some (sound_bytes old ++ xs)) (sym (take-append-le n bytes more le)),
    )

-- all of it came
grown_all : (old new : Option (List ℕ)) (bytes : List ℕ) → new ≡ Some (sound_bytes old ++ bytes)
    → MayHaveGrown bytes old new
grown_all old new bytes is =
    let le : length bytes ≤ length bytes = omega arith in
    inr (length bytes, le, is ∙ ap (λ xs. Some (sound_bytes old ++ xs)) (sym (take_all (length bytes) bytes le)))

-- a sound that is there
pub there_of : (o : Option (List ℕ)) (bytes : List ℕ) → o ≡ Some bytes → IsThere o
there_of o bytes is = subst IsThere (sym is) refl

-- what told of itself still does
pub still : {x y : Bool} → y ≡ x → IsTrue x → IsTrue y
still same told = subst (λ (b : Bool). IsTrue b) (sym same) told

module _ {V : Type 0} {ghosts : vault.Ghosts V} {name : List ℕ} where
  pub keeps_self : (a : V) → Keeps (moved ghosts name a a)
  keeps_self a = record { others = λ told other differs. refl; tells = refl }

  pub keeps_on : {a b c : V} → Keeps (moved ghosts name a b) → Keeps (moved ghosts name b c)
      → Keeps (moved ghosts name a c)
  keeps_on h k = record {
    others = λ told other differs. k.others (still h.tells told) other differs ∙ h.others told other differs;
    tells = k.tells ∙ h.tells;
  }

  pub grows_self : (a : V) → (IsTrue (ghosts.tells a) → IsThere (ghosts.holds a name))
      → Grows (moved ghosts name a a) []
  grows_self a there = record {
    keeps = keeps_self a;
    written = λ told. there told ∙ ap Some (sym (append-nil (sound_bytes (ghosts.holds a name))));
    faults = refl;
  }

  pub grows_on : {a b c : V} {xs ys : List ℕ} → Grows (moved ghosts name a b) xs → Grows (moved ghosts name b c) ys
      → Grows (moved ghosts name a c) (xs ++ ys)
  grows_on {a = a} {xs = xs} {ys = ys} h k = record {
    keeps = keeps_on h.keeps k.keeps;
    written = λ told. k.written (still h.keeps.tells told)
        ∙ ap (λ (o : Option (List ℕ)). Some (sound_bytes o ++ ys)) (h.written told)
        ∙ ap Some (append_assoc (sound_bytes (ghosts.holds a name)) xs ys);
    faults = k.faults ∙ h.faults;
  }

  -- the sound is there after that
  pub there_on : {a b : V} {xs : List ℕ} → Grows (moved ghosts name a b) xs → IsTrue (ghosts.tells b)
      → IsThere (ghosts.holds b name)
  there_on {a} {b} {xs} h told =
      there_of (ghosts.holds b name) (sound_bytes (ghosts.holds a name) ++ xs)
      (h.written (still (sym h.keeps.tells) told))

  -- a part more, which the vault did not take
  pub grown_on : {a b c : V} {xs ys : List ℕ} → Grows (moved ghosts name a b) xs
      → GrowFails (moved ghosts name b c) ys → IsTrue (ghosts.tells a)
      → MayHaveGrown (xs ++ ys) (ghosts.holds a name) (ghosts.holds c name)
  grown_on {a} {b} {c} {xs} {ys} h k told =
      grown_after (ghosts.holds a name) (ghosts.holds b name) (ghosts.holds c name) xs ys (h.written told)
      (k.grown (still h.keeps.tells told))

  -- what the vault did not take may have been a longer part
  pub fails_less : {a b : V} {xs : List ℕ} (ys : List ℕ) → GrowFails (moved ghosts name a b) xs
      → GrowFails (moved ghosts name a b) (xs ++ ys)
  fails_less {a} {b} {xs} ys h = record {
    keeps = h.keeps;
    grown = λ told. grown_less (ghosts.holds a name) (ghosts.holds b name) xs ys (h.grown told);
    later = h.later;
    rose = h.rose;
  }

  -- and after a part that it took
  pub fails_on : {a b c : V} {xs ys : List ℕ} → Grows (moved ghosts name a b) xs → GrowFails (moved ghosts name b c) ys
      → GrowFails (moved ghosts name a c) (xs ++ ys)
  fails_on {a} {b} {c} h k = record {
    keeps = keeps_on h.keeps k.keeps;
    grown = grown_on h k;
    later = subst (λ (n : ℕ). n ≤ ghosts.fault_count c) h.faults k.later;
    rose = subst (λ (n : ℕ). Rose n (ghosts.fault_count c)) h.faults k.rose;
  }

  pub grown_so : {a b : V} {xs : List ℕ} → Grows (moved ghosts name a b) xs → IsTrue (ghosts.tells a)
      → MayHaveGrown xs (ghosts.holds a name) (ghosts.holds b name)
  grown_so {a} {b} {xs} h told = grown_all (ghosts.holds a name) (ghosts.holds b name) xs (h.written told)

-- what an append says
pub grown_by : {V T E : Type 0} (ghosts : vault.Ghosts V) (name : List ℕ) (a b : V) (bytes : List ℕ)
    (result : Result T E) → (IsTrue (ghosts.tells a)
    → OnOk result (ghosts.holds b name ≡ Some (sound_bytes (ghosts.holds a name) ++ bytes)))
    → (IsTrue (ghosts.tells a)
    → OnErr result (MayHaveGrown bytes (ghosts.holds a name) (ghosts.holds b name)))
    → (IsTrue (ghosts.tells a) → SameElsewhere name (ghosts.holds a) (ghosts.holds b))
    → ghosts.tells b ≡ ghosts.tells a → HasCause (ghosts.fault_count a) (ghosts.fault_count b) result
    → MatchResult result (λ _. Grows (moved ghosts name a b) bytes) (λ _. GrowFails (moved ghosts name a b) bytes)
grown_by ghosts name a b bytes (Ok x) written grown others tells cause = record {
  keeps = record { others = others; tells = tells };
  written = written;
  faults = cause.kept;
}
grown_by ghosts name a b bytes (Err e) written grown others tells cause = record {
  keeps = record { others = others; tells = tells };
  grown = grown;
  later = cause.later;
  rose = cause.failed;
}
