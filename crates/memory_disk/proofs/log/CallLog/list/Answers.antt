-- The files that have a size are there.
use Rattle.memory_disk.proofs.Common.{◌≡◌, List, sym, ap, ◌∙◌, is_some, reads_of, head_of, size_from, Log, Head}
use Rattle.std.proofs.{lemmas.Result.on_ok_weaker}
use Rattle.memory_disk.proofs.ReadChain.{there_read}
use Rattle.memory_disk.proofs.log.CallLog.list.Goals as goal

pub returns-clause-listed : goal.returns-clause-listed
returns-clause-listed c = on_ok_weaker c.list_files.result (λ listed n.
    let there : is_some (size_from (head_of c.deref.result.now n)) ≡ is_some (reads_of c.args.self.now.history n) =
    ap (λ (l : List Head). is_some (size_from (head_of l n))) c.deref.ensures.value
    ∙ there_read _ _ _ _ c.self.invariant.indexed n
    ∙ ap (λ (log : Log). is_some (reads_of log.history n)) c.self.view_is in (
      (λ found. sym there ∙ (listed n).0 found),
      (λ some. (listed n).1 (there ∙ some)),
    )) c.list_files.ensures.listed
