-- Names that several proofs of this crate use, from where they are declared.
pub use Rattle.disk_model.specs.Disk.{Files, Torn, TornFile, bytes_of, written}
pub use Rattle.memory_disk.specs.Calls.{AllHeld, Held, IsWindow, history_of, history_on, items_of, step_by, step_of}
pub use Rattle.memory_disk.specs.Histories.{elsewhere_removed, image_since, reads_elsewhere, reads_removed}
pub use Rattle.memory_disk.specs.Histories.{reads_written}
pub use Rattle.memory_disk.specs.History.{IsFileImage, IsImage, Removed, Step, Synced, Wrote, reads_of}
pub use Rattle.memory_disk.specs.Images.{IsLeft, IsUnnamed, Left, after_removal, after_write, image_of, left_of}
pub use Rattle.memory_disk.specs.Index.{AreRising, IsChain, IsHead, IsIndexed, MakesFile, file_at, head_of, no_call}
pub use Rattle.memory_disk.specs.Index.{no_head, reads_at, size_from}
pub use Rattle.memory_disk.specs.declared.call.Call.{Call}
pub use Rattle.memory_disk.specs.declared.call.Kind.{Kind, TheVariants.Remove, TheVariants.Sync, TheVariants.Write}
pub use Rattle.memory_disk.specs.declared.heads.Head.{Head}
pub use Rattle.memory_disk.specs.{ByFile.calls_of, Settled.IsBuilt, Settled.SetsFile, Ram.Log, Ram.Ram, Ram.files_after}
pub use Rattle.std.proofs.Common.{Bool, IfSome, List, None, Option, Some, [], ap, arith, cond, drop, eqb, false, get_or}
pub use Rattle.std.proofs.Common.{inl, inr, length, length-append, length-drop, ltb, ltb-true, map, max, min, refl}
pub use Rattle.std.proofs.Common.{replicate, rules, set, subst, suc, sym, take, true, zero, ℕ, ⊎_elim, ◌++◌, ◌+◌, ◌-◌}
pub use Rattle.std.proofs.Common.{◌<◌, ◌^◌, ◌∙◌, ◌∷◌, ◌≡◌, ◌≢◌, ◌≤◌, ◌⊎◌}
pub use Rattle.std.proofs.lemmas.{Bool.cases_lt, Bool.cond-false, Bool.cond-true, Bool.eq-eqb, Bool.false≢true}
pub use Rattle.std.proofs.lemmas.{Bool.ltb-false, Bool.ne_eqb, List.Sorted.IsPartitionPoint-from_clause}
pub use Rattle.std.proofs.lemmas.{Grind.common_steps, Grind.same_number_lists, Bool.Decides.nat_tests, Bool.cases_eq}
pub use Rattle.std.proofs.lemmas.{List.Sorted.IsPartitionedBy-ltb, List.get_or-drop, List.get_or-set_other}
pub use Rattle.std.proofs.lemmas.{List.get_or-set_same, List.get_or-take, List.get_or_append_left, List.get_or_default}
pub use Rattle.std.proofs.lemmas.{List.length-replicate, List.length-set, List.length-take-le, List.take-append-drop}
pub use Rattle.std.proofs.lemmas.{List.take_all}
pub use Rattle.std.specs.List.{All, filter, Sorted.IsStrictlyIncreasing}
pub use Rattle.std.specs.Prelude.{Contains, IsSome, is_some, vec_len}
pub use Rattle.std.specs.{BTreeSet.contains, Ordering.nat_cmp, Option.option_map, Option.unwrap_or}
