use Rattle.bundled_tools.proofs.Embedding.{head_written}
use Rattle.bundled_tools.proofs.embed.append_head.Goals as goal

pub returns : goal.returns
returns c =
    head_written c.raw-4.result _ _ _ _ _ _ c.args.value.now c.args.unit.now _ _ c.as_bytes.ensures c.as_bytes-2.ensures
    c.in_ok-raw.ensures.ok c.in_ok-append_module.ensures c.in_ok-raw-2.ensures.ok c.in_ok-raw-3.ensures.ok
    c.raw-4.ensures.ok
