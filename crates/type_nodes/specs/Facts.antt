-- What is known of a type as it was made: folds over it.
use Rattle.std.specs.Prelude.{◌≡◌, ℕ, ◌+◌, List, length, min, slice_get, Some, Bool, true, false, not, ◌||◌, ◌&&◌}
use Rattle.semantic_objects.specs.declared.name.TyId.TheVariants as id
use Rattle.semantic_objects.specs.declared.symbol.Symbol.{Symbol}
use Rattle.unification.specs.Types.{Ty, Types, Marks, size, size_all, admits, admits_all, equality_of, where_parts}
use Rattle.type_nodes.specs.declared.facts.Facts.{Facts}
use Rattle.type_nodes.specs.declared.node.Birth.{Birth}
use Rattle.type_nodes.specs.Nodes.{Store, AreMade, type_at, marked_in, rigid_in}

-- whether such a variable stands in a type
abbrev mutual
  pub has_variable : Marks → Ty → Bool
  has_variable is (Ty.Var n) = is n
  has_variable is (Ty.Made c ts) = have_variable is ts

  pub have_variable : Marks → Types → Bool
  have_variable is Types.Nil = false
  have_variable is (Types.Cons t ts) = has_variable is t || have_variable is ts

-- variables that aren't rigid
abbrev pub flexible_in : List Birth → Marks
flexible_in births v = not (rigid_in births v)

abbrev pub every : Marks
every v = true

-- a size, where a large one is 65,537
abbrev pub capped : ℕ → ℕ
capped n = min n 65537

abbrev pub facts_of : List Birth → Ty → Facts
facts_of births t = record {
  flexible = has_variable (flexible_in births) t;
  variable = has_variable every t;
  size = capped (size t);
  equality = admits (marked_in births) t;
}

abbrev pub facts_all : List Birth → Types → Facts
facts_all births ts = record {
  flexible = have_variable (flexible_in births) ts;
  variable = have_variable every ts;
  size = capped (size_all ts);
  equality = admits_all (marked_in births) ts;
}

-- the same from parts
abbrev pub no_facts : Facts
no_facts = record { flexible = false; variable = false; size = 0; equality = true }

abbrev pub variable_facts : Birth → Facts
variable_facts b = record { flexible = not b.rigid; variable = true; size = 1; equality = b.marked }

abbrev pub joined : Facts → Facts → Facts
joined f g = record {
  flexible = f.flexible || g.flexible;
  variable = f.variable || g.variable;
  size = capped (f.size + g.size);
  equality = f.equality && g.equality;
}

abbrev pub over_symbol : Symbol → Facts → Facts
over_symbol c f = record {
  flexible = f.flexible;
  variable = f.variable;
  size = capped (f.size + 1);
  equality = where_parts (equality_of c) f.equality;
}

-- nodes that were made one after the other, with what is known of each
pub record IsStore (s : Store) (facts : List Facts) : Type 0 where
  pub made : AreMade s
  pub counted : length facts ≡ length s.nodes
  pub known : (i : ℕ) (f : Facts) → slice_get facts i ≡ Some f → f ≡ facts_of s.births (type_at s (id.Made i))
