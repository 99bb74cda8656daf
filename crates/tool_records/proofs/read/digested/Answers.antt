use Rattle.std.proofs.Common.{◌∙◌, refl, sym}
use Rattle.bin_formats.proofs.Finding.{too_short, digest_differs, digest_same}
use Rattle.bin_formats.proofs.Tests.{not_same, same}
use Rattle.tool_records.proofs.read.digested.Goals as goal

pub returns-then-bytes-lt32 : goal.returns-then-bytes-lt32
returns-then-bytes-lt32 c = too_short c.args.bytes.now c.if-bytes-lt32.true

pub returns-then-not-same_bytes : goal.returns-then-not-same_bytes
returns-then-not-same_bytes c =
    digest_differs c.args.bytes.now _ _ _ refl c.split_at.ensures.front c.split_at.ensures.back
    (λ is. not_same _ _ c.same_bytes.result c.if-not-same_bytes.true c.same_bytes.ensures (is ∙ sym c.digest.ensures))
