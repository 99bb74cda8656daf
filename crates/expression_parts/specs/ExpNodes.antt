-- Nodes of expressions with two parts or more, and the chains of operands that `andalso` and `orelse` make.
use Rattle.std.specs.Prelude.{◌+◌, max, ◌++◌, [], ◌∷◌}
use Rattle.sml_trees.specs.declared.full_exp.FullExp.{FullExp}
use Rattle.sml_trees.specs.declared.full_exp.FullExp.TheVariants as e
use Rattle.sml_trees.specs.declared.name.At.{At}
use Rattle.phrase_reading.specs.declared.tall.Tall.{Tall}
use Rattle.sml_lexer.specs.declared.words.Word.{Word}
use Rattle.sml_lexer.specs.declared.words.Word.TheVariants as w
use Rattle.expression_parts.specs.declared.chain.Chain.{Chain}
use Rattle.expression_parts.specs.declared.chain.Chain.TheVariants as chain
use Rattle.sml_trees.specs.declared.full_exp.FullExpItem.TheVariants as item
use Rattle.sml_trees.specs.declared.full_pat.Fixity.{Fixity}
use Rattle.sml_trees.specs.declared.name.Name.{Name}
use Rattle.infix_names.specs.Fixities.{open_after}
use Rattle.expression_parts.specs.declared.runs.Run.{Run}

-- one of two expressions, by a test
abbrev pub branched : At → Tall FullExp → Tall FullExp → Tall FullExp → Tall FullExp
branched place test right wrong = record {
  tree = e.If test.tree right.tree wrong.tree place;
  height = max (max test.height right.height) wrong.height + 1;
}

abbrev pub chain_word : Chain → Word
chain_word chain.Conjunction = w.AndAlso
chain_word chain.Disjunction = w.OrElse

abbrev pub link : Chain → At → FullExp → FullExp → FullExp
link chain.Conjunction place left right = e.AndAlso left right place
link chain.Disjunction place left right = e.OrElse left right place

-- ---- runs of applications and infix operators

-- a run that begins with an atomic expression
abbrev pub run_of : Tall FullExp → Run
run_of first = record { items = item.Atom first.tree ∷ []; ops = []; height = first.height }

-- one more atomic expression
abbrev pub with_atom : Run → Tall FullExp → Run
with_atom run next = record {
  items = run.items ++ item.Atom next.tree ∷ [];
  ops = run.ops;
  height = max run.height next.height;
}

-- one more operator
abbrev pub with_operator : Run → Name → Fixity → Run
with_operator run name f = record {
  items = run.items ++ item.Operator name f ∷ [];
  ops = open_after run.ops f;
  height = run.height;
}

-- the tree of a whole run
abbrev pub run_exp : At → Run → Tall FullExp
run_exp place run = record { tree = e.Run run.items place; height = run.height + 1 }
