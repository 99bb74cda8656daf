use Rattle.lexeme_laws.proofs.Lexemes.{lexemes_within}
use Rattle.lexeme_laws.proofs.laws.lexemes_are_within_limits.Goals as goal

pub returns : goal.returns
returns c = lexemes_within
