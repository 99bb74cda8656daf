use Rattle.bundled_tools.proofs.Embedding.{embedded_written}
use Rattle.bundled_tools.proofs.embed.append_embedded.Goals as goal

pub returns : goal.returns
returns c =
    embedded_written c.raw.result _ _ _ _ c.args.value.now c.args.unit.now c.args.input.now _ c.as_bytes.ensures
    c.in_ok-append_head.ensures c.in_ok-append_string.ensures c.raw.ensures.ok
