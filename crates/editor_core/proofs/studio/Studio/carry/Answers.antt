-- Blocks, and then a record.
use Rattle.editor_core.proofs.Common.{◌≡◌, ◌∙◌, inl, inr, refl, sym, ap, subst, ℕ, ◌+◌, ◌≤◌, ◌<◌, IfErr, IsSome, List}
use Rattle.editor_core.proofs.Common.{ℤ, length, [], vec_capacity, arith, after_err, exit_err, current_tracks, Body}
use Rattle.editor_core.proofs.Common.{with_point, AllPass, NewBlock, all_bytes, all_len, whole_len, writing, Carried}
use Rattle.editor_core.proofs.Common.{NotPrepared, Adds, Core, IsInsideOr, batch_of, ids_from, RefusedBrought, is_block}
use Rattle.editor_core.proofs.Common.{is_given, core_of, LONGEST_BODY, AreWaiting, Track, any_brought, inside_counted}
use Rattle.editor_core.proofs.Common.{inside_or, pages_of_blocks}
use Rattle.std.proofs.Common.{suc, zero}
use Rattle.editor_state.specs.Bodies.{bodies_by, bytes_by}
use Rattle.editor_state.specs.{Edits.BlockCommit, Edits.IsPrepared, Makes.AreSynced, Makes.Making, Makes.Stuck}
use Rattle.project_journal.specs.Journal.{rows_length}
use Rattle.project_journal.proofs.Together.{opened_length}
use Rattle.editor_state.proofs.Refusals.VaultRefusals.{adds_counted, adds_inside, unprepared_asks}
use Rattle.editor_commits.proofs.{BodyBytes.rows_count, CurrentProject.current_agrees}
use Rattle.editor_edits.proofs.{CarryOrder.carried_by, VaultCuts.brought_inside}
use Rattle.editor_core.proofs.studio.Studio.carry.Given.{Over}
use Rattle.editor_core.proofs.studio.Studio.carry.Goals.{After-commit_rows}
use Rattle.editor_core.proofs.studio.Studio.carry.Goals as goal

-- records that wait, and are short together, are short with the gate and the length of the first
waiting_short : (version : ℕ) (current : List Track) (body : Body) (more : ℕ) (rows : List ℕ)
    → AreWaiting rows (bodies_by version current more body)
    → rows_length (bodies_by version current more body) ≤ LONGEST_BODY → length rows ≤ LONGEST_BODY + 5
waiting_short version current body zero rows are short =
    omega (arith, ap length are.spelled, opened_length (bytes_by version current body) [], short)
waiting_short version current body (suc more) rows are short = omega (
  arith,
  ap length are.spelled,
  opened_length (bytes_by version current (with_point current body)) (bodies_by version current more body),
  short,
)

waiting_some : (version : ℕ) (current : List Track) (body : Body) (more : ℕ) (rows : List ℕ)
    → AreWaiting rows (bodies_by version current more body) → 5 ≤ length rows
waiting_some version current body zero rows are =
    omega (arith, ap length are.spelled, opened_length (bytes_by version current body) [])
waiting_some version current body (suc more) rows are = omega (
  arith,
  ap length are.spelled,
  opened_length (bytes_by version current (with_point current body)) (bodies_by version current more body),
)

-- the commit by the samples that came
abbrev commit_by : {D : Type 0} → Core D → Body → (more : ℕ) → List NewBlock → (tracks layouts : ℕ) → (ℕ → ℤ)
    → BlockCommit
commit_by s body more makes tracks layouts given = record {
  makes = makes;
  given = given;
  tracks = tracks;
  layouts = layouts;
  count = suc more;
  bodies = all_bytes s (writing more body);
  whole = whole_len s (writing more body);
}

-- the records are those that waited
added : (g : Over) (c : After-commit_rows g) (most : ℕ) → Adds {R = Unit {0}} g.S.Store (core_of c.make_blocks.new.self)
    (all_bytes (core_of c.args.self.now) (writing c.args.more c.args.body.now)) (c.args.more + 1) most
    c.commit_rows.result (core_of c.commit_rows.new.self)
added g c most =
    let s = core_of c.args.self.now in
    let bodies = all_bytes s (writing c.args.more c.args.body.now) in
    c.commit_rows.ensures.records most bodies (subst (λ (l : List ℕ). AreWaiting l bodies)
    (sym (ap (λ v. v.items) c.in_ok-make_blocks.ensures.row)) c.in_ok-prepare.ensures.rows)
    (rows_count s.version (current_tracks s.history) c.args.body.now c.args.more)

pub prepare-requires-clause-again : goal.prepare-requires-clause-again
prepare-requires-clause-again g c = current_agrees g.S.Store (core_of c.args.self.now) c.requires.studio

pub commit_rows-requires-clause-short : goal.commit_rows-requires-clause-short
commit_rows-requires-clause-short g c =
    let s = core_of c.args.self.now in
    let rows = c.in_ok-prepare.ensures.rows in
    let all = waiting_short s.version (current_tracks s.history) c.args.body.now c.args.more
    c.prepare.new.self.row.items rows c.in_ok-prepare.ensures.prepared.short in
    omega (arith, ap (λ v. length v.items) c.in_ok-make_blocks.ensures.row, all)

pub commit_rows-requires-clause-some : goal.commit_rows-requires-clause-some
commit_rows-requires-clause-some g c =
    let s = core_of c.args.self.now in
    let rows = c.in_ok-prepare.ensures.rows in
    let all = waiting_some s.version (current_tracks s.history) c.args.body.now c.args.more c.prepare.new.self.row.items
    rows in
    omega (arith, ap (λ v. length v.items) c.in_ok-make_blocks.ensures.row, all)

pub make_blocks-requires-clause-below : goal.make_blocks-requires-clause-below
make_blocks-requires-clause-below g c =
    subst (λ (z : Core g.row.S.Denot). (id : ℕ) → IsSome (z.counts id) → id < z.next_block)
    (sym c.in_ok-prepare.ensures.same) (λ id some. (c.requires.studio.given id some).1)

pub make_blocks-requires-clause-pages : goal.make_blocks-requires-clause-pages
make_blocks-requires-clause-pages g c =
    subst (λ (z : Core g.row.S.Denot). AllPass (is_given z.next_block) z.cache) (sym c.in_ok-prepare.ensures.same)
    c.requires.studio.pages

pub commit_rows-requires-clause-file : goal.commit_rows-requires-clause-file
commit_rows-requires-clause-file g c =
    let making = c.in_ok-make_blocks.ensures.made.2.0 in
    let File : Core g.row.S.Denot → Type 0 = λ z. z.file ≤ 1 in
    subst File (sym making.is) (subst File (sym c.in_ok-prepare.ensures.same) c.requires.studio.journal.among)

pub commit_rows-requires-clause-pages : goal.commit_rows-requires-clause-pages
commit_rows-requires-clause-pages g c =
    let s = core_of c.args.self.now in
    let making = c.in_ok-make_blocks.ensures.made.2.0 in
    let Pages : Core g.row.S.Denot → Type 0 = λ z. AllPass is_block z.cache in
    subst Pages (sym making.is) (subst Pages (sym c.in_ok-prepare.ensures.same)
    (pages_of_blocks s.next_block s.cache c.requires.studio.pages))

pub make_blocks-requires-clause-size : goal.make_blocks-requires-clause-size
make_blocks-requires-clause-size g c =
    subst (λ (z : Core g.row.S.Denot). z.block_size ≤ 262144)
    (sym c.in_ok-prepare.ensures.same) c.requires.studio.format.block_most

pub returns-in_err-prepare-clause-carried : goal.returns-in_err-prepare-clause-carried
returns-in_err-prepare-clause-carried g c =
    let s = core_of c.args.self.now in
    let bs = c.args.makes.now in
    let w = writing c.args.more c.args.body.now in
    let one : c.args.more + 1 ≡ suc c.args.more = omega arith in
    let any = any_brought (g.G.Brings.brings c.args.given.now) in
    let commit = commit_by s c.args.body.now c.args.more bs c.args.draws.tracks c.args.draws.layouts any.0 in (
      any.0,
      any.1,
      after_err (λ x. Carried g.S.Store s commit x (core_of c.prepare.new.self)) _ c.from_residual.result
          c.from_residual.ensures.1
          (inl (
            c.in_err-prepare.ensures.same,
            subst (λ (n : ℕ). NotPrepared s (length bs) c.args.draws.tracks c.args.draws.layouts n (whole_len s w)
                (all_len s w) c.in_err-prepare.field-0.0) one c.in_err-prepare.ensures.err,
          )),
    )

pub returns-clause-carried : goal.returns-clause-carried
returns-clause-carried g c =
    let s = core_of c.args.self.now in
    let same : core_of c.prepare.new.self ≡ s = c.in_ok-prepare.ensures.same in
    let mid = core_of c.make_blocks.new.self in
    let bs = c.args.makes.now in
    let by = c.in_ok-make_blocks.ensures.made in
    let made = by.2 in
    let making =
    subst (λ (z : Core g.row.S.Denot). Making g.S.Store z (batch_of by.0 bs) (length bs) mid) same made.0 in
    let reads = made.1 ∙ ap (λ (z : Core g.row.S.Denot). g.S.Store.read_fault_count z.store) same in
    let synced =
    subst (λ (z : Core g.row.S.Denot). AreSynced g.S.Store (ids_from z.next_block (length bs)) mid.store) same made.2 in
    let w = writing c.args.more c.args.body.now in
    let new = core_of c.commit_rows.new.self in
    let row = c.in_ok-make_blocks.ensures.row in
    let room : 1 + length c.make_blocks.new.self.row.items ≤ vec_capacity c.make_blocks.new.self.row =
    omega (arith, ap (λ v. length v.items) row, ap vec_capacity row, c.in_ok-prepare.ensures.room) in
    let one : c.args.more + 1 ≡ suc c.args.more = omega arith in
    let prepared = subst (λ (n : ℕ). IsPrepared s (length bs) c.args.draws.tracks c.args.draws.layouts n (all_len s w))
    one c.in_ok-prepare.ensures.prepared in
    let adds = λ (most : ℕ). subst (λ (n : ℕ). Adds g.S.Store mid (all_bytes s w) n most c.commit_rows.result new) one
    (added g (goal.at.returns-clause-carried g c).After-commit_rows most) in
    let commit = commit_by s c.args.body.now c.args.more bs c.args.draws.tracks c.args.draws.layouts by.0 in (
      by.0,
      by.1,
      carried_by g.S.Store s mid new commit c.commit_rows.result making reads synced
          prepared (adds (all_len s w)) (adds (whole_len s w)) (c.commit_rows.ensures.memory room),
    )

-- ---- what is left of the devices

pub returns-in_err-prepare-clause-device : goal.returns-in_err-prepare-clause-device
returns-in_err-prepare-clause-device g c =
    let s = core_of c.args.self.now in
    let b = g.G.Brings.brings c.args.given.now in
    let w = writing c.args.more c.args.body.now in
    let why = c.in_err-prepare.field-0.0 in
    subst (λ x. IfErr x (IsInsideOr b)) (sym (exit_err c.from_residual.result c.from_residual.ensures.1))
    (inside_or b why (unprepared_asks s (length c.args.makes.now) c.args.draws.tracks c.args.draws.layouts
    (c.args.more + 1) (whole_len s w) (all_len s w) why c.in_err-prepare.ensures.err))

pub returns-in_err-prepare-clause-given : goal.returns-in_err-prepare-clause-given
returns-in_err-prepare-clause-given g c =
    let s = core_of c.args.self.now in
    let n = g.G.Brings.fault_count c.args.given.now in
    let w = writing c.args.more c.args.body.now in
    let why = c.in_err-prepare.field-0.0 in
    subst (λ x. RefusedBrought x n n) (sym (exit_err c.from_residual.result c.from_residual.ensures.1))
    (inside_counted why n (unprepared_asks s (length c.args.makes.now) c.args.draws.tracks c.args.draws.layouts
    (c.args.more + 1) (whole_len s w) (all_len s w) why c.in_err-prepare.ensures.err))

pub returns-in_err-prepare-clause-still : goal.returns-in_err-prepare-clause-still
returns-in_err-prepare-clause-still g c = record { same = refl; goes = λ first follows. follows }

pub returns-in_err-make_blocks-clause-carried : goal.returns-in_err-make_blocks-clause-carried
returns-in_err-make_blocks-clause-carried g c =
    let s = core_of c.args.self.now in
    let new = core_of c.make_blocks.new.self in
    let bs = c.args.makes.now in
    let by = c.in_err-make_blocks.ensures.made in
    let one : c.args.more + 1 ≡ suc c.args.more = omega arith in
    let commit = commit_by s c.args.body.now c.args.more bs c.args.draws.tracks c.args.draws.layouts by.0 in (
      by.0,
      by.1,
      after_err (λ x. Carried g.S.Store s commit x new) _ c.from_residual-in_err-make_blocks.result
          c.from_residual-in_err-make_blocks.ensures.1
          (inr (inl (
            subst (λ (n : ℕ). IsPrepared s (length bs) c.args.draws.tracks c.args.draws.layouts n
                (all_len s (writing c.args.more c.args.body.now))) one c.in_ok-prepare.ensures.prepared,
            subst (λ (z : Core g.row.S.Denot). Stuck g.S.Store z (batch_of by.0 bs) c.in_err-make_blocks.field-0.0 new)
                c.in_ok-prepare.ensures.same by.2,
          ))),
    )

pub returns-in_err-make_blocks-clause-device : goal.returns-in_err-make_blocks-clause-device
returns-in_err-make_blocks-clause-device g c =
    let b = g.G.Brings.brings c.args.given.now in
    after_err (λ x. IfErr x (IsInsideOr b)) _ c.from_residual-in_err-make_blocks.result
    c.from_residual-in_err-make_blocks.ensures.1
    (brought_inside b c.in_err-make_blocks.field-0.0 c.in_err-make_blocks.ensures.refused)

pub returns-in_err-make_blocks-clause-given : goal.returns-in_err-make_blocks-clause-given
returns-in_err-make_blocks-clause-given g c =
    after_err (λ x. RefusedBrought x (g.G.Brings.fault_count c.args.given.now)
    (g.G.Brings.fault_count c.make_blocks.new.given)) _ c.from_residual-in_err-make_blocks.result
    c.from_residual-in_err-make_blocks.ensures.1 c.in_err-make_blocks.ensures.given

pub returns-in_err-make_blocks-clause-still : goal.returns-in_err-make_blocks-clause-still
returns-in_err-make_blocks-clause-still g c = c.in_err-make_blocks.ensures.still

pub returns-clause-device : goal.returns-clause-device
returns-clause-device g c =
    let s = core_of c.args.self.now in
    let w = writing c.args.more c.args.body.now in
    adds_inside g.S.Store (core_of c.make_blocks.new.self) (core_of c.commit_rows.new.self) (all_bytes s w)
    (c.args.more + 1) (whole_len s w) (g.G.Brings.brings c.args.given.now) c.commit_rows.result
    (added g (goal.at.returns-clause-device g c).After-commit_rows (whole_len s w))

pub returns-clause-given : goal.returns-clause-given
returns-clause-given g c =
    let s = core_of c.args.self.now in
    let w = writing c.args.more c.args.body.now in
    adds_counted g.S.Store (core_of c.make_blocks.new.self) (core_of c.commit_rows.new.self) (all_bytes s w)
    (c.args.more + 1) (whole_len s w) c.commit_rows.result (g.G.Brings.fault_count c.args.given.now)
    (g.G.Brings.fault_count c.make_blocks.new.given)
    (added g (goal.at.returns-clause-given g c).After-commit_rows (whole_len s w)) c.in_ok-make_blocks.ensures.given

pub returns-clause-still : goal.returns-clause-still
returns-clause-still g c = c.in_ok-make_blocks.ensures.still
