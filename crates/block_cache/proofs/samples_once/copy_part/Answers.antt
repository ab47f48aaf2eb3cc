-- A page that is kept is right.
use Rattle.block_cache.proofs.Common.{◌≡◌, ◌/◌, length, ◌∙◌, arith, ap, page_len, sample_key}
use Rattle.block_cache.proofs.PageLaws.{page_header, page_samples, page_whole}
use Rattle.block_cache.proofs.samples_once.copy_part.Goals as goal

pub returns-clause-there : goal.returns-clause-there
returns-clause-there c = λ files right is.
    let on = c.copy_samples.ensures.there is in
    let key = c.sample_key-key.ensures in
    let page = right.samples (c.sample_key-key.result, on.0) on.1 in
    let size : length on.0 ≡ page_len (sample_key c.args.block (c.args.from / 4096)) = on.2.size ∙ ap page_len key in
    let n = length c.args.out.now in
    record {
      header = λ some. page_header files c.sample_key-key.result c.args.block (c.args.from / 4096) on.0 key page;
      whole = λ some. page_whole files c.sample_key-key.result c.args.block c.args.from n on.0 key page
          (omega (arith, size, c.requires.one, c.requires.within));
      samples = page_samples files c.sample_key-key.result c.args.block c.args.from n on.0 c.copy_samples.new.out key
          page (omega (arith, size, c.requires.one, c.requires.within)) on.3;
    }
