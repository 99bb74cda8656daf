use Rattle.cm_description.proofs.OneAnswer.{one_answer}
use Rattle.cm_description.proofs.laws.text_has_one_answer.Goals as goal

pub returns : goal.returns
returns c = one_answer
