-- A track more for each channel.
use Rattle.editor_core.proofs.Common.{◌≡◌, ◌∙◌, refl, sym, ap, subst, ℕ, ◌+◌, List, length, take, arith, length-take}
use Rattle.editor_core.proofs.Common.{take_all, current_tracks, core_of, NewBlock, AreGrown, total_of, AllInOrder}
use Rattle.editor_core.proofs.Common.{channels_pass, current_below}
use Rattle.std.proofs.Common.{slice_index_or}
use Rattle.editor_imports.specs.Imports.{AddsChannel}
use Rattle.editor_imports.proofs.ChannelTests.{all_grown, brought_few, grown_below, ids_count, number_few, place_left}
use Rattle.editor_imports.proofs.ChannelTests.{short_at, take_more}
use Rattle.editor_imports.proofs.{SampleOrder.order_more, ProjectGrowth.grown_more, ProjectGrowth.grown_none}
use Rattle.editor_core.proofs.studio.Studio.planned_channels.Goals as goal

pub channels-init : goal.channels-init
channels-init g c =
    let s = core_of c.args.self.now in record {
      grown = grown_none s
          (record {
            point = c.in_ok-copy.field-0;
            makes = c.new.result;
            next = s.next_block;
            brought = 0;
            number = s.next_layout;
          })
          (c.in_ok-copy.ensures ∙ c.current.ensures) c.new.ensures.items refl refl refl;
      order = subst (λ (bs : List NewBlock). AllInOrder 0 0 bs) (sym c.new.ensures.items) (omega arith);
      next_id = omega arith;
    }

pub add_channel-requires-clause-room : goal.add_channel-requires-clause-room
add_channel-requires-clause-room g c =
    let s = core_of c.args.self.now in
    let pass = channels_pass (length (current_tracks s.history)) c.args.counts.now c.requires.tests in
    ids_count s c.args.counts.now c.channels.count-index c.channels.growing c.channels.invariant.grown pass.1
    c.requires.studio.counters.block_most (omega (arith, pass.0))

pub add_channel-requires-clause-number : goal.add_channel-requires-clause-number
add_channel-requires-clause-number g c =
    let s = core_of c.args.self.now in
    let pass = channels_pass (length (current_tracks s.history)) c.args.counts.now c.requires.tests in
    number_few s c.args.counts.now c.channels.count-index c.channels.growing c.channels.invariant.grown pass.1
    c.requires.studio.layouts (omega (arith, c.channels-test.true)) (omega (arith, pass.0))

pub add_channel-requires-clause-place : goal.add_channel-requires-clause-place
add_channel-requires-clause-place g c =
    let s = core_of c.args.self.now in
    let pass = channels_pass (length (current_tracks s.history)) c.args.counts.now c.requires.tests in
    place_left s c.args.counts.now c.channels.count-index c.channels.growing c.channels.invariant.grown pass.1
    c.channels-test.true pass.0

pub add_channel-requires-clause-few : goal.add_channel-requires-clause-few
add_channel-requires-clause-few g c =
    let s = core_of c.args.self.now in
    let pass = channels_pass (length (current_tracks s.history)) c.args.counts.now c.requires.tests in
    brought_few s c.args.counts.now c.channels.count-index c.channels.growing c.channels.invariant.grown pass.1
    c.channels-test.true (omega (arith, pass.0))

pub add_channel-requires-clause-below : goal.add_channel-requires-clause-below
add_channel-requires-clause-below g c =
    let s = core_of c.args.self.now in
    let pass = channels_pass (length (current_tracks s.history)) c.args.counts.now c.requires.tests in
    grown_below s c.args.counts.now c.channels.count-index c.channels.growing c.channels.invariant.grown pass.1
    c.channels.id c.channels.invariant.next_id (omega (arith, c.channels-test.true))
    (current_below g.S.Store s c.requires.studio)

pub add_channel-requires-clause-short : goal.add_channel-requires-clause-short
add_channel-requires-clause-short g c =
    let s = core_of c.args.self.now in
    let pass = channels_pass (length (current_tracks s.history)) c.args.counts.now c.requires.tests in
    short_at c.args.counts.now c.channels.count-index pass.1 c.channels-test.true

pub channels-preserved : goal.channels-preserved
channels-preserved g c =
    let s = core_of c.args.self.now in
    let counts = c.args.counts.now in
    let i = c.channels.count-index in
    let old = current_tracks s.history in
    let m = s.block_size in
    let pass = channels_pass (length old) counts c.requires.tests in
    let here = take_more counts i c.channels-test.true in
    let len = length-take i counts in
    let id = s.next_track in
    let at : c.channels.id ≡ id + length (take i counts) =
    omega (arith, c.channels.invariant.next_id, len, c.channels-test.true) in
    let count = slice_index_or counts i 0 in
    let added = subst (λ (k : ℕ). AddsChannel k c.channels.id count c.channels.growing c.add_channel.new.growing)
    c.block_size.ensures.value c.in_ok-add_channel.ensures.added in
    let adds = subst (λ (k : ℕ). AddsChannel m k count c.channels.growing c.add_channel.new.growing) at added in
    record {
      grown = subst (λ (ns : List ℕ). AreGrown s ns c.add_channel.new.growing) (sym here)
          (grown_more s (omega (arith, c.requires.studio.format.block_least))
          (c.requires.studio.counters.block_least) (c.requires.studio.counters.track_least)
          (take i counts) count (omega (arith, len, pass.0, c.channels-test.true)) c.channels.growing
          c.add_channel.new.growing c.channels.invariant.grown adds);
      order = order_more _ c.channels.id count c.channels.growing c.add_channel.new.growing
          c.in_ok-add_channel.ensures.added c.channels.invariant.order;
      next_id = omega (arith, c.channels.invariant.next_id);
    }

pub returns-clause-plan : goal.returns-clause-plan
returns-clause-plan g c =
    let s = core_of c.args.self.now in
    let i = c.channels.count-index in
    let all = take_all i c.args.counts.now (omega (arith, c.channels-test.false)) in
    let is = c.planned_of.ensures in
    all_grown s c.args.counts.now i c.channels.growing c.planned_of.result c.channels.invariant.grown all
    is.0 is.1 is.2 is.3 is.4 is.6

pub returns-clause-clip : goal.returns-clause-clip
returns-clause-clip g c = c.planned_of.ensures.5

pub returns-clause-order : goal.returns-clause-order
returns-clause-order g c =
    let i = c.channels.count-index in
    let all = take_all i c.args.counts.now (omega (arith, c.channels-test.false)) in
    let sum : c.channels.growing.brought ≡ total_of c.args.counts.now =
    c.channels.invariant.grown.brought ∙ ap total_of all in
    subst (λ (bs : List NewBlock). AllInOrder 0 (total_of c.args.counts.now) bs) (sym c.planned_of.ensures.1)
    (subst (λ (k : ℕ). AllInOrder 0 k c.channels.growing.makes.items) sum c.channels.invariant.order)
