use Rattle.std.proofs.Common.{refl, ◌∙◌}
use Rattle.signature_parts.proofs.Finishing.{envs_made, parts_ended}
use Rattle.signature_parts.proofs.ending.end_signature.Goals as goal

pub make_env-requires : goal.make_env-requires
make_env-requires c = envs_made c.args.g.now c.in_ok-structures.structures c.args.made
    (c.in_ok-structures.ensures ∙ c.rows.ensures) c.requires

pub returns-clause-ok : goal.returns-clause-ok
returns-clause-ok c = parts_ended c.args.g.now c.make_env.new.self c.args.made
    (record { bound = c.args.made.bound; env = c.in_ok-env.env }) c.in_ok-structures.structures c.in_ok-types.types
    c.in_ok-values.values (c.in_ok-structures.ensures ∙ c.rows.ensures) (c.in_ok-types.ensures ∙ c.rows-2.ensures)
    (c.in_ok-values.ensures ∙ c.rows-3.ensures) c.in_ok-env.ensures.ok refl
