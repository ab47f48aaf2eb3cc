-- What is listed is what is there.
use Rattle.memory_disk.proofs.Common.{map, ap, ◌∙◌, arith, List, take_all, filter, is_some, Head}
use Rattle.memory_disk.proofs.Listings.{files_listed, files_rise}
use Rattle.memory_disk.proofs.listing.list_files.Goals as goal

pub returns-clause-listed : goal.returns-clause-listed
returns-clause-listed c = files_listed c.args.heads.now c.loop-head.out.items c.requires
    (c.loop-head.invariant ∙ ap (λ (l : List Head). map (λ (h : Head). h.file)
    (filter (λ (h : Head). is_some h.size) l)) (take_all _ c.args.heads.now (omega arith)))

pub returns-clause-rising : goal.returns-clause-rising
returns-clause-rising c = files_rise c.args.heads.now c.loop-head.out.items c.requires
    (c.loop-head.invariant ∙ ap (λ (l : List Head). map (λ (h : Head). h.file)
    (filter (λ (h : Head). is_some h.size) l)) (take_all _ c.args.heads.now (omega arith)))
