-- The grammar of conditions, with its parts named as a grammar is printed:
--
--     condition  = conjunct { "orelse" conjunct }
--     conjunct   = comparison { "andalso" comparison }
--     comparison = sum [ ( "=" | "<>" | "<" | "<=" | ">" | ">=" ) sum ]
--     sum        = product { ( "+" | "-" ) product }
--     product    = factor { ( "*" | "div" | "mod" ) factor }
--     factor     = "not" atom | atom
--     atom       = number | name | "defined" "(" name ")" | "defined" "(" space module ")" | "(" condition ")"
--
-- Chains associate to the left. What stands in parentheses is one level down; those of `defined` are no level.
use Rattle.std.specs.Prelude.{ℕ, zero, suc, if◌then◌else◌, ◌==◌, ◌&&◌, ◌||◌, Bool, true, false, not, Option, None, Some, is_some, List, [], ◌∷◌, ◌++◌, nat_eq, codes}
use Rattle.std.specs.List.{list_any}
use Rattle.cm_base.specs.declared.record.Namespace.{Namespace}
use Rattle.cm_base.specs.declared.record.Namespace.TheVariants as space
use Rattle.grammars.specs.Grammar.{Grammar, expect, ◌>>=◌, ◌>>◌}
use Rattle.grammars.specs.Grammar.Grammar.{pure, refuse, on, many, within}
use Rattle.cm_conditions.specs.declared.cond.Cond.{Cond, out-Cond}
use Rattle.cm_conditions.specs.declared.cond.Cond.TheOpen.{Cond-F}
use Rattle.cm_conditions.specs.declared.cond.Cond.TheVariants as c
use Rattle.cm_conditions.specs.declared.cond.Step.{Step}
use Rattle.cm_conditions.specs.declared.cond.Step.TheVariants as t
use Rattle.cm_conditions.specs.declared.lexeme.Mark.{Mark}
use Rattle.cm_conditions.specs.declared.lexeme.Mark.TheVariants as m
use Rattle.cm_conditions.specs.declared.lexeme.Lexeme.{Lexeme}
use Rattle.cm_conditions.specs.declared.lexeme.Lexeme.TheVariants as x
use Rattle.cm_conditions.specs.declared.lexeme.Strength.{Strength}
use Rattle.cm_conditions.specs.declared.lexeme.Strength.TheVariants as s
use Rattle.cm_conditions.specs.declared.lexeme.Operator.{Operator}
use Rattle.cm_conditions.specs.declared.lexeme.Operator.TheVariants as o
use lib.Pointwise.{pointwise}

-- a grammar of conditions
abbrev pub g : Type 1
g = Grammar Lexeme Cond

-- ---- words

unfoldable pub is_orelse : List ℕ → Bool
is_orelse word = pointwise nat_eq word (codes "orelse")

unfoldable pub is_andalso : List ℕ → Bool
is_andalso word = pointwise nat_eq word (codes "andalso")

unfoldable pub is_div : List ℕ → Bool
is_div word = pointwise nat_eq word (codes "div")

unfoldable pub is_mod : List ℕ → Bool
is_mod word = pointwise nat_eq word (codes "mod")

unfoldable pub is_not : List ℕ → Bool
is_not word = pointwise nat_eq word (codes "not")

unfoldable pub is_defined : List ℕ → Bool
is_defined word = pointwise nat_eq word (codes "defined")

-- a word of the grammar itself
abbrev pub is_reserved : List ℕ → Bool
is_reserved word = is_orelse word || (is_andalso word || (is_div word || (is_mod word || (is_not word || is_defined word))))

-- a name of conditions: no word of the grammar, and without a prime
abbrev pub is_name : List ℕ → Bool
is_name word = not (is_reserved word) && not (list_any (λ byte. byte == 39) word)

-- the name space that a word stands for, if it does
unfoldable pub space_of : List ℕ → Option Namespace
space_of word =
    if pointwise nat_eq word (codes "structure") then Some space.Structure
    else (if pointwise nat_eq word (codes "signature") then Some space.Signature
    else (if pointwise nat_eq word (codes "functor") then Some space.Functor
    else (if pointwise nat_eq word (codes "funsig") then Some space.Funsig else None)))

-- ---- operators

-- the operator of this strength that a word is, if it is one
abbrev pub operator_word : Strength → List ℕ → Option Operator
operator_word s.Or word = if is_orelse word then Some o.Orelse else None
operator_word s.And word = if is_andalso word then Some o.Andalso else None
operator_word s.Sum word = None
operator_word s.Product word = if is_div word then Some o.Div else (if is_mod word then Some o.Mod else None)

abbrev pub operator_mark : Strength → Mark → Option Operator
operator_mark s.Sum m.Plus = Some o.Add
operator_mark s.Sum m.Minus = Some o.Subtract
operator_mark s.Product m.Times = Some o.Multiply
operator_mark _ _ = None

-- the operator of this strength that a lexeme is, if it is one
abbrev pub operator_of : Strength → Lexeme → Option Operator
operator_of strength (x.Number n) = None
operator_of strength (x.Word word) = operator_word strength word
operator_of strength (x.Mark mark) = operator_mark strength mark
operator_of strength x.Wrong = None

abbrev pub comparison_mark : Mark → Option Operator
comparison_mark m.Equal = Some o.Equal
comparison_mark m.Unequal = Some o.Unequal
comparison_mark m.Less = Some o.Less
comparison_mark m.LessEqual = Some o.LessEqual
comparison_mark m.Greater = Some o.Greater
comparison_mark m.GreaterEqual = Some o.GreaterEqual
comparison_mark _ = None

-- the comparison that a lexeme is, if it is one
abbrev pub comparison_of : Lexeme → Option Operator
comparison_of (x.Number n) = None
comparison_of (x.Word word) = None
comparison_of (x.Mark mark) = comparison_mark mark
comparison_of x.Wrong = None

-- an operator with its right side
abbrev pub step_of : Operator → Cond → Step
step_of o.Multiply right = t.Multiply right
step_of o.Div right = t.Div right
step_of o.Mod right = t.Mod right
step_of o.Add right = t.Add right
step_of o.Subtract right = t.Subtract right
step_of o.Equal right = t.Equal right
step_of o.Unequal right = t.Unequal right
step_of o.Less right = t.Less right
step_of o.LessEqual right = t.LessEqual right
step_of o.Greater right = t.Greater right
step_of o.GreaterEqual right = t.GreaterEqual right
step_of o.Andalso right = t.Andalso right
step_of o.Orelse right = t.Orelse right

-- one operator more behind a chain, or the first behind another condition
abbrev pub extended : Cond-F Cond Step → Cond → Step → Cond
extended (Cond-F.Chain first steps) left step = c.Chain first (steps ++ step ∷ [])
extended _ left step = c.Chain left (step ∷ [])

-- Two sides with this operator between them. The left side is all that the chain has so far, so that operators of one
-- strength associate to the left; one that binds tighter has taken its part of the right side before.
unfoldable pub joined : Operator → Cond → Cond → Cond
joined op left right = extended (out-Cond left) left (step_of op right)

abbrev pub joined_by : Option Operator → Cond → Cond → Cond
joined_by None left right = left
joined_by (Some op) left right = joined op left right

-- ---- atoms

abbrev pub is_mark : Mark → Mark → Bool
is_mark m.Open m.Open = true
is_mark m.Close m.Close = true
is_mark _ _ = false

-- whether a lexeme is this parenthesis
abbrev pub is_paren : Mark → Lexeme → Bool
is_paren mark (x.Number n) = false
is_paren mark (x.Word word) = false
is_paren mark (x.Mark other) = is_mark mark other
is_paren mark x.Wrong = false

-- whether a lexeme is a word that passes
abbrev pub is_word : (List ℕ → Bool) → Lexeme → Bool
is_word t (x.Number n) = false
is_word t (x.Word word) = t word
is_word t (x.Mark mark) = false
is_word t x.Wrong = false

-- the word of a lexeme, if it is one that passes
abbrev pub if_passes : Bool → List ℕ → Option (List ℕ)
if_passes true word = Some word
if_passes false word = None

abbrev pub word_of : (List ℕ → Bool) → Lexeme → Option (List ℕ)
word_of t (x.Number n) = None
word_of t (x.Word word) = if_passes (t word) word
word_of t (x.Mark mark) = None
word_of t x.Wrong = None

-- whether an atom begins with the lexeme
abbrev pub starts_atom : Lexeme → Bool
starts_atom (x.Number n) = true
starts_atom (x.Word word) = is_defined word || is_name word
starts_atom (x.Mark mark) = is_mark m.Open mark
starts_atom x.Wrong = false

-- goes on with a word, if there is one
abbrev pub with_word : (List ℕ → g) → Option (List ℕ) → g
with_word k None = refuse
with_word k (Some word) = k word

-- a word that passes, and what stands behind it
unfoldable pub word_then : (List ℕ → Bool) → (List ℕ → g) → g
word_then t k = on (λ x. is_some (word_of t x)) (λ x. with_word k (word_of t x)) refuse

-- a closing parenthesis, behind what this is
unfoldable pub closed : Cond → g
closed cond = do
  expect (is_paren m.Close)
  pure cond

-- behind a name space: a module's name and the closing parenthesis
unfoldable pub module_of : Option Namespace → g
module_of None = refuse
module_of (Some space) = word_then (λ _. true) (λ name. closed (c.Provided (record { space = space; name = name })))

-- behind `defined`, its parenthesis and a word
unfoldable pub defined_of : List ℕ → g
defined_of word = on (is_paren m.Close) (λ _. pure (c.Defined word)) (module_of (space_of word))

-- behind `defined`
unfoldable pub defined : g
defined = do
  expect (is_paren m.Open)
  word_then is_name defined_of

-- behind an opening parenthesis, over what may stand there
unfoldable pub in_parens : g → g
in_parens below = do
  inner ← below
  closed (c.Parens inner)

-- an atom of a word, which is `defined` or a name
abbrev pub atom_of_word : Bool → List ℕ → g
atom_of_word true word = defined
atom_of_word false word = pure (c.Name word)

-- an atom after its first lexeme, over what may stand in parentheses
abbrev pub atom_after : g → Lexeme → g
atom_after below (x.Number n) = pure (c.Number n)
atom_after below (x.Word word) = atom_of_word (is_defined word) word
atom_after below (x.Mark mark) = in_parens below
atom_after below x.Wrong = refuse

unfoldable pub atom : g → g
atom below = on starts_atom (atom_after below) refuse

unfoldable pub factor : g → g
factor below = on (is_word is_not) (λ _. do inner ← atom below; pure (c.Not inner)) (atom below)

-- ---- chains

-- what follows the parts that were read: operators of one strength, each with a part behind it
unfoldable pub rounds : g → Strength → Cond → g
rounds part strength left =
    many (λ _ x. is_some (operator_of strength x))
    (λ left x. do right ← part; pure (joined_by (operator_of strength x) left right)) left

unfoldable pub chain : g → Strength → g
chain part strength = do
  first ← part
  rounds part strength first

-- a comparison with another side behind it, or nothing more
unfoldable pub compared : g → Cond → g
compared sum left =
    on (λ x. is_some (comparison_of x)) (λ x. do right ← sum; pure (joined_by (comparison_of x) left right)) (pure left)

unfoldable pub comparison : g → g
comparison sum = do
  left ← sum
  compared sum left

-- what stands on each side of an operator of this strength
abbrev pub part : g → Strength → g
part below s.Product = factor below
part below s.Sum = chain (factor below) s.Product
part below s.And = comparison (chain (chain (factor below) s.Product) s.Sum)
part below s.Or = chain (comparison (chain (chain (factor below) s.Product) s.Sum)) s.And

-- what may stand where so many parentheses may still be opened
unfoldable pub below : ℕ → g
below zero = within false refuse
below (suc n) = chain (part (below n) s.Or) s.Or

-- a condition that opens at most so many parentheses at once
abbrev pub condition : ℕ → g
condition n = chain (part (below n) s.Or) s.Or
