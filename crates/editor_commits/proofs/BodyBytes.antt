-- The bytes of a record's body, by the journal's version: how many they are, and that the record may come next.
use Rattle.editor_commits.proofs.Common.{rules, ◌≡◌, inl, inr, ⊎_elim, refl, sym, ap, ◌∙◌, subst, ℕ, zero, suc, ◌+◌}
use Rattle.editor_commits.proofs.Common.{◌*◌, ◌^◌, ◌≤◌, ◌<◌, ◌==◌, List, ◌∷◌, length, map, add-mul, arith, Sources}
use Rattle.editor_commits.proofs.Common.{project_body_most, rows_length, Edit, Undo, Redo, Purge, IsNextIn, Saved}
use Rattle.editor_commits.proofs.Common.{MayFollow, before_of, current_tracks, version_of, Body, with_point}
use Rattle.editor_commits.proofs.Common.{unnumbered_body, IsValidBody, spelling, unnumbered, unnumbered_history, Track}
use Rattle.editor_commits.proofs.Common.{meant, current_alike, IsLength, bodies_by, body_bytes, bytes_by, single}
use Rattle.editor_commits.proofs.Common.{whole_by, Core, form_at}
use Rattle.std.proofs.lemmas.Bool.{cases_Bool}
use Rattle.project_journal.specs.{Header.form_of}
use Rattle.record_body.specs.{Changes.spelling_in, Laws.HasShortEnds, Valid.IsValidPoint}
use Rattle.record_body.proofs.Batched.{next_in}
use Rattle.record_body.proofs.Unnumbered.{delta_spelled_alike, found_alike, spelled_alike}
use Rattle.editor_state.specs.{Studios.AreJournalNumbers}
use Rattle.editor_state.proofs.Images.RecordLengths.{record_most, diff_most}

pub version_at : (version file : ℕ) → 1 ≤ version → version ≤ 3 → version_of (form_of version file) ≡ version
version_at zero file least most = absurd (omega (arith, least))
version_at (suc zero) file least most = refl
version_at (suc (suc zero)) file least most = refl
version_at (suc (suc (suc zero))) file least most = refl
version_at (suc (suc (suc (suc n)))) file least most = absurd (omega (arith, most))

-- ---- several records

pub rows_step : (x : List ℕ) (version : ℕ) (current : List Track) (more : ℕ) (body : Body)
    → rows_length (x ∷ bodies_by version current more body)
    ≡ length x + (5 + rows_length (bodies_by version current more body))
rows_step x version current zero body = refl
rows_step x version current (suc more) body = refl

pub rows_count : (version : ℕ) (current : List Track) (body : Body) (more : ℕ)
    → length (bodies_by version current more body) ≡ more + 1
rows_count version current body zero = refl
rows_count version current body (suc more) = omega (arith, rows_count version current body more)

-- as many bytes as the bounds of the records that say the current point, and of the last, allow
more_most : (more rest low one high total : ℕ) → one ≤ low → total ≡ one + (5 + rest)
    → (5 * more ≤ rest) × (rest ≤ more * (5 + low) + high)
    → (5 * suc more ≤ total) × (total ≤ suc more * (5 + low) + high)
more_most more rest low one high total first is within = search (rules, add-mul)

rows_most : (version : ℕ) (current : List Track) (body : Body) (low high : ℕ)
    → length (bytes_by version current (with_point current body)) ≤ low → length (bytes_by version current body) ≤ high
    → (more : ℕ) → (5 * more ≤ rows_length (bodies_by version current more body))
    × (rows_length (bodies_by version current more body) ≤ more * (5 + low) + high)
rows_most version current body low high one last zero = (omega arith, omega (arith, last))
rows_most version current body low high one last (suc more) =
    search (rules, more_most, rows_step, rows_most version current body low high one last more)

wholes_most : (current : List Track) (body : Body) (low high : ℕ) → length (spelling (with_point current body)) ≤ low
    → length (spelling body) ≤ high → (more : ℕ) → (5 * more ≤ whole_by current more body)
    × (whole_by current more body ≤ more * (5 + low) + high)
wholes_most current body low high one last zero = (omega arith, omega (arith, last))
wholes_most current body low high one last (suc more) =
    search (rules, more_most, wholes_most current body low high one last more)

-- ---- the numbers of layouts bear on no byte

pub spelled_in : (version : ℕ) (current : List Track) (body : Body)
    → spelling_in version (map unnumbered current) (unnumbered_body body) ≡ spelling_in version current body
spelled_in version current body = search (rules, cases_Bool, spelled_alike, delta_spelled_alike)

pub ends_alike : (current : List Track) → HasShortEnds current → HasShortEnds (map unnumbered current)
ends_alike current short = search (rules, found_alike)

module _ {D : Type 0} (s : Core D) where
  pub version_is : AreJournalNumbers s.file s.version s.generation → version_of (form_at s) ≡ s.version
  version_is journal = version_at s.version s.file journal.version_least journal.version_most

  bytes_in : (body : Body) → body_bytes s body ≡ spelling_in s.version (current_tracks s.history) body
  bytes_in (Edit tag block track point) = refl
  bytes_in Undo = elim (cases_Bool (s.version == 1)) [ inl is ↦ rw is refl | inr not ↦ rw not refl ]
  bytes_in Redo = elim (cases_Bool (s.version == 1)) [ inl is ↦ rw is refl | inr not ↦ rw not refl ]
  bytes_in (Purge n) = elim (cases_Bool (s.version == 1)) [ inl is ↦ rw is refl | inr not ↦ rw not refl ]

  -- what the studio writes for a valid body may come next
  pub next_so : (m : ℕ) (k : Saved) (body : Body) → AreJournalNumbers s.file s.version s.generation
      → k.history ≡ unnumbered_history s.history → 4 ≤ m → m < 2 ^ 32 → k.commit < 2 ^ 62
      → HasShortEnds (current_tracks s.history) → IsValidBody m (before_of k) (unnumbered_body body)
      → MayFollow k.history (unnumbered_body body)
      → IsNextIn (version_of (form_at s)) m k (body_bytes s body) (unnumbered_body body)
  next_so m k body journal same large small room short valid follows =
      let plain = unnumbered_body body in
      let now = current_tracks s.history in
      let current : current_tracks k.history ≡ map unnumbered now = ap current_tracks same ∙ current_alike s.history in
      let short_there = subst HasShortEnds (sym current) (ends_alike now short) in
      let next : IsNextIn s.version m k (spelling_in s.version (current_tracks k.history) plain) plain =
      next_in s.version m k plain journal.version_least journal.version_most large small room short_there valid
      follows in
      let bytes : spelling_in s.version (current_tracks k.history) plain ≡ body_bytes s body =
      ap (λ (ts : List Track). spelling_in s.version ts plain) current ∙ spelled_in s.version now body
      ∙ sym (bytes_in body) in
      subst (λ (v : ℕ). IsNextIn v m k (body_bytes s body) plain) (sym (version_is journal))
      (subst (λ (b : List ℕ). IsNextIn s.version m k b plain) bytes next)

  -- they are as few as the project asks
  bytes_most : (next_block next_track : ℕ) (src : Sources) (m tag block track : ℕ) (ts : List Track) → 0 < m
      → IsValidPoint m next_block next_track ts
      → length (body_bytes s (Edit tag block track ts)) ≤ project_body_most m (meant src ts)
  bytes_most next_block next_track src m tag block track ts some is = elim (cases_Bool (s.version == 1)) [
    | inl whole ↦ rw whole (record_most m next_block next_track src tag block track ts some is)
    | inr told ↦ rw told (diff_most m next_block next_track src (current_tracks s.history) tag block track ts some is)
  ]

  -- so are those of records that come together, also written out whole
  pub lengths_all : (next_block next_track : ℕ) (src : Sources) (m tag block track : ℕ) (ts : List Track) → 0 < m
      → IsValidPoint m next_block next_track (current_tracks s.history) → IsValidPoint m next_block next_track ts
      → (more n : ℕ) → IsLength s (record { more = more; body = Edit tag block track ts }) n
      → (5 * more ≤ n) × (n ≤ more * (5 + project_body_most m (meant src (current_tracks s.history)))
      + project_body_most m (meant src ts))
  lengths_all next_block next_track src m tag block track ts some now is more n one =
      let current = current_tracks s.history in
      let body = Edit tag block track ts in
      let low = project_body_most m (meant src current) in
      let high = project_body_most m (meant src ts) in
      let Within : ℕ → Type 0 = λ k. (5 * more ≤ k) × (k ≤ more * (5 + low) + high) in
      ⊎_elim
      (λ whole. subst Within (sym whole) (wholes_most current body low high
      (record_most m next_block next_track src tag block track current some now)
      (record_most m next_block next_track src tag block track ts some is) more))
      (λ told. subst Within (sym told) (rows_most s.version current body low high
      (bytes_most next_block next_track src m tag block track current some now)
      (bytes_most next_block next_track src m tag block track ts some is) more))
      one

  -- of one record
  pub lengths_most : (next_block next_track : ℕ) (src : Sources) (m tag block track : ℕ) (ts : List Track) → 0 < m
      → IsValidPoint m next_block next_track ts → (n : ℕ) → IsLength s (single (Edit tag block track ts)) n
      → n ≤ project_body_most m (meant src ts)
  lengths_most next_block next_track src m tag block track ts some is n one = ⊎_elim
      (λ whole. omega (arith, whole, record_most m next_block next_track src tag block track ts some is))
      (λ told. omega (arith, told, bytes_most next_block next_track src m tag block track ts some is))
      one
