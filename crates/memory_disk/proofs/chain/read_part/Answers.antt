-- A window within the file is a part of it.
use Rattle.memory_disk.proofs.Common.{◌≡◌, ◌++◌, ℕ, List, drop, length, ap, ◌∙◌, arith, length-take-le, option_map}
use Rattle.memory_disk.proofs.Common.{unwrap_or, Files, bytes_of, reads_of, history_of}
use Rattle.memory_disk.proofs.{Windows.window_part, Windows.size_of_absent, ReadChain.reads_all}
use Rattle.memory_disk.proofs.chain.read_part.Goals as goal

pub returns-clause-read : goal.returns-clause-read
returns-clause-read c =
    let file = reads_of (history_of c.args.row.now c.args.calls.now) c.args.head.now.file in
    let whole =
    ap (λ (f : Files). option_map length (f c.args.head.now.file)) (reads_all c.args.row.now c.args.calls.now) in
    let size : c.unwrap_or.result ≡ length (bytes_of file) =
    c.unwrap_or.ensures ∙ ap (λ o. unwrap_or o 0) (c.requires.head.size ∙ whole) ∙ size_of_absent file in
    ap (λ (l : List ℕ). l ++ drop c.min-n.result c.args.buf.now)
    (window_part (bytes_of file) c.show_chain.new.buf c.args.at _ (omega (
      arith,
      length-take-le c.min-n.result c.args.buf.now (omega arith),
    )) (omega (arith, size)) c.show_chain.ensures)
