use Rattle.command_parts.proofs.ScriptLaws.{lawful_result}
use Rattle.command_parts.proofs.script.script_at.Goals as goal

pub returns-clause-lawful : goal.returns-clause-lawful
returns-clause-lawful c = lawful_result c.args.name.now c.in_ok-text.text c.read_script.result c.read_script.ensures
