-- The grammar of patterns (The Definition of Standard ML, figure 4 and appendix A), with its parts named as a grammar is
-- printed, where the infix status of names is given:
--
--     pat     = name [ ":" ty ] "as" pat | run { ":" ty }
--     run     = operand { operator operand }
--     operand = atpat | [ "op" ] long atpat
--     atpat   = "_" | constant | [ "op" ] long | "{" [ field { "," field } ] "}" | "(" ")" | "(" pat ")"
--             | "(" pat "," pat { "," pat } ")" | "[" [ pat { "," pat } ] "]"
--     field   = label "=" pat | name [ ":" ty ] [ "as" pat ]
--     name    = [ "op" ] a name without structures before it
--
-- A name that is infix is an operator, and no operand unless `op` stands before it. An operator doesn't join two
-- operands where it clashes with one before it. Each node of the tree is a level, and a run is one node. What stands in
-- brackets, in a run, behind a `:` and behind `as` is one level down. What stands before a `:`, or before the second
-- part of a run, becomes a part there, which the limit has to allow.
use Rattle.std.specs.Prelude.{ℕ, zero, suc, ◌+◌, ◌-◌, ◌++◌, ◌&&◌, ◌||◌, max, Bool, true, false, not, List, [], ◌∷◌, Option, Some, None, is_some, nat_lt}
use Rattle.sml_lexer.specs.declared.lexeme.Lexeme.{Lexeme}
use Rattle.sml_lexer.specs.declared.lexeme.LexemeKind.{LexemeKind}
use Rattle.sml_lexer.specs.declared.lexeme.LexemeKind.TheVariants as k
use Rattle.sml_trees.specs.declared.name.At.{At}
use Rattle.sml_trees.specs.declared.name.Name.{Name}
use Rattle.sml_trees.specs.declared.full_ty.FullTy.{FullTy}
use Rattle.sml_trees.specs.declared.full_ty.OpName.{OpName}
use Rattle.sml_trees.specs.declared.full_ty.OpLong.{OpLong}
use Rattle.sml_trees.specs.declared.full_pat.Fixity.{Fixity}
use Rattle.sml_trees.specs.declared.full_pat.Constant.{Constant}
use Rattle.sml_trees.specs.declared.full_pat.Constant.TheVariants as c
use Rattle.sml_trees.specs.declared.full_pat.FullPat.{FullPat}
use Rattle.sml_trees.specs.declared.full_pat.FullPat.TheVariants as p
use Rattle.sml_trees.specs.declared.full_pat.FullPatItem.TheVariants as i
use Rattle.sml_trees.specs.declared.full_pat.FullPatField.{FullPatField}
use Rattle.sml_trees.specs.declared.full_pat.FullPatField.TheVariants as f
use Rattle.grammars.specs.Grammar.{◌>>=◌, ◌>>◌}
use Rattle.grammars.specs.Grammar.Grammar.{pure, refuse, on, many, within}
use Rattle.phrase_reading.specs.Words.{g, is, given, only, field_label, name_of, or_empty, long, token, at, named, long_named}
use Rattle.sml_lexer.specs.Words.{word_of}
use Rattle.infix_names.specs.Fixities.{if_name as if_name_of, Fixities, fixity_of, joining, open_after}
use Rattle.phrase_reading.specs.Sized.{leaf, over, over_two, part, one, more, lower, further, maybe}
use Rattle.core_types.specs.Types.{ty}
use Rattle.sml_lexer.specs.declared.words.Word.{Word}
use Rattle.sml_lexer.specs.declared.words.Word.TheVariants as w
use Rattle.phrase_reading.specs.declared.tall.Tall.{Tall}
use Rattle.phrase_reading.specs.declared.lexemes.Label.{Label}
use Rattle.core_patterns.specs.declared.operand.Operand.{Operand}
use Rattle.core_patterns.specs.declared.operand.Operand.TheVariants as o
use Rattle.core_patterns.specs.declared.operand.Run.{Run}

-- the phrases that nest at most so many levels
pub record PatLevel : Type 1 where
  -- a pattern
  pub pat : g (Tall FullPat)
  -- an atomic pattern behind its first lexeme
  pub atpat : Lexeme → g Operand

-- ---- what patterns begin with

-- whether a name is an operand: one with structures before it, or one that isn't infix
abbrev pub is_operand : Fixities → List (List ℕ) → Bool
is_operand fs [] = false
is_operand fs (part ∷ []) = not (is_some (fixity_of fs part))
is_operand fs (part ∷ second ∷ parts) = true

abbrev pub starts_atpat_word : Option Word → Bool
starts_atpat_word (Some w.Wild) = true
starts_atpat_word (Some w.Op) = true
starts_atpat_word (Some w.Open) = true
starts_atpat_word (Some w.OpenBrace) = true
starts_atpat_word (Some w.OpenBracket) = true
starts_atpat_word _ = false

abbrev pub starts_atpat_kind : Fixities → LexemeKind → Bool
starts_atpat_kind fs (k.Reserved text) = starts_atpat_word (word_of text)
starts_atpat_kind fs (k.Name parts) = is_operand fs parts
starts_atpat_kind fs (k.TyVar text) = false
starts_atpat_kind fs (k.Int value ok) = true
starts_atpat_kind fs (k.Str text) = true
starts_atpat_kind fs (k.Char byte) = true

-- whether an atomic pattern begins with the lexeme; a pattern begins with the same ones
abbrev pub starts_atpat : Fixities → Lexeme → Bool
starts_atpat fs x = starts_atpat_kind fs x.kind

-- ---- operands

-- an identifier as a pattern, at a place
abbrev pub leaf_id : At → OpLong → Tall FullPat
leaf_id place id = leaf (p.Long id place)

-- an operand as a pattern, at a place
abbrev pub plain : At → Operand → Tall FullPat
plain place (o.Id id) = leaf_id place id
plain place (o.Other pat) = pat

-- how many levels an operand nests
abbrev pub operand_height : Operand → ℕ
operand_height (o.Id id) = 1
operand_height (o.Other pat) = pat.height

-- whether an operand may take an argument
abbrev pub takes : Operand → Bool
takes (o.Id id) = true
takes (o.Other pat) = false

-- the patterns of a list, and its closing bracket
unfoldable pub items_of : g (Tall FullPat) → At → g (Tall FullPat)
items_of pat place = do
  first ← pat
  items ← further w.Comma pat (one first)
  token w.CloseBracket
  pure (over (λ (items : List FullPat). p.List items place) items)

-- a list behind its bracket
unfoldable pub in_brackets : g (Tall FullPat) → At → g (Tall FullPat)
in_brackets pat place = on (is w.CloseBracket) (λ _. pure (leaf (p.List [] place))) (items_of pat place)

-- behind the first of several patterns in parentheses and its comma
unfoldable pub tuple_of : g (Tall FullPat) → At → Tall FullPat → g (Tall FullPat)
tuple_of pat place first = do
  second ← pat
  parts ← further w.Comma pat (more (one first) second)
  token w.Close
  pure (over (λ (parts : List FullPat). p.Tuple parts place) parts)

-- behind the first pattern in parentheses
unfoldable pub behind_first : g (Tall FullPat) → At → Tall FullPat → g (Tall FullPat)
behind_first pat place first =
    on (is w.Comma) (λ _. tuple_of pat place first)
    (do
      token w.Close
      pure (over (λ (inner : FullPat). p.Paren inner place) first))

-- the first of what stands in parentheses, and the rest of it
unfoldable pub inside_parens : g (Tall FullPat) → At → g (Tall FullPat)
inside_parens pat place = do
  first ← pat
  behind_first pat place first

-- what begins with a parenthesis, behind it
unfoldable pub in_parens : g (Tall FullPat) → At → g (Tall FullPat)
in_parens pat place = on (is w.Close) (λ _. pure (leaf (p.Unit place))) (inside_parens pat place)

-- a field whose label has `=` behind it, behind that
unfoldable pub labelled : g (Tall FullPat) → Name → g (Tall FullPatField)
labelled pat name = do
  inner ← pat
  pure (part (λ (inner : FullPat). f.Labelled name inner) inner)

-- a field that is a name, with what may stand behind it
unfoldable pub named_field : g (Tall FullTy) → g (Tall FullPat) → Name → g (Tall FullPatField)
named_field tys pat name = do
  ty ← maybe w.Colon tys
  inner ← maybe w.As pat
  pure (record { tree = f.Named name ty.tree inner.tree; height = max ty.height inner.height })

abbrev pub if_name : Bool → g (Tall FullPatField) → g (Tall FullPatField)
if_name true field = field
if_name false field = refuse

-- a field behind its label
unfoldable pub field_behind : g (Tall FullTy) → g (Tall FullPat) → Label → g (Tall FullPatField)
field_behind tys pat label =
    on (is w.Equals) (λ _. labelled pat label.name) (if_name label.is_name (named_field tys pat label.name))

-- a field of a record pattern
unfoldable pub field : g (Tall FullTy) → g (Tall FullPat) → g (Tall FullPatField)
field tys pat = do
  label ← field_label
  field_behind tys pat label

-- the fields of a record pattern, and its closing brace
unfoldable pub fields_of : g (Tall FullTy) → g (Tall FullPat) → At → g (Tall FullPat)
fields_of tys pat place = do
  first ← field tys pat
  fields ← further w.Comma (field tys pat) (one first)
  token w.CloseBrace
  pure (over (λ (fields : List FullPatField). p.Record fields place) fields)

-- a record pattern behind its brace
unfoldable pub record_of : g (Tall FullTy) → g (Tall FullPat) → At → g (Tall FullPat)
record_of tys pat place = on (is w.CloseBrace) (λ _. pure (leaf (p.Record [] place))) (fields_of tys pat place)

-- a pattern that is no identifier, as an operand
unfoldable pub other : g (Tall FullPat) → g Operand
other pat = do
  found ← pat
  pure (o.Other found)

-- an identifier behind `op`
unfoldable pub behind_op : g Operand
behind_op = do
  called ← long
  pure (o.Id (record { op = true; long = called }))

abbrev pub atpat_word : g (Tall FullTy) → g (Tall FullPat) → At → Option Word → g Operand
atpat_word tys pat place (Some w.Wild) = pure (o.Other (leaf (p.Wild place)))
atpat_word tys pat place (Some w.Op) = behind_op
atpat_word tys pat place (Some w.Open) = other (in_parens pat place)
atpat_word tys pat place (Some w.OpenBrace) = other (record_of tys pat place)
atpat_word tys pat place (Some w.OpenBracket) = other (in_brackets pat place)
atpat_word tys pat place _ = refuse

abbrev pub constant : At → Constant → Operand
constant place value = o.Other (leaf (p.Constant value place))

abbrev pub atpat_kind : g (Tall FullTy) → g (Tall FullPat) → Lexeme → LexemeKind → g Operand
atpat_kind tys pat x (k.Reserved text) = atpat_word tys pat (at x) (word_of text)
atpat_kind tys pat x (k.Name parts) = pure (o.Id (record { op = false; long = long_named x parts }))
atpat_kind tys pat x (k.TyVar text) = refuse
atpat_kind tys pat x (k.Int value ok) = pure (constant (at x) (c.Int value))
atpat_kind tys pat x (k.Str text) = pure (constant (at x) (c.Str text))
atpat_kind tys pat x (k.Char byte) = pure (constant (at x) (c.Char byte))

-- an atomic pattern behind its first lexeme
abbrev pub atpat_after : g (Tall FullTy) → g (Tall FullPat) → Lexeme → g Operand
atpat_after tys pat x = atpat_kind tys pat x x.kind

-- ---- runs

-- a run of one operand so far
abbrev pub start : At → Operand → Run
start place operand = record {
  items = i.Atom (plain place operand).tree ∷ [];
  ops = [];
  takes = takes operand;
  height = (plain place operand).height;
}

-- the run with an argument behind its last operand
abbrev pub with_argument : Run → At → Operand → Run
with_argument run place operand = record {
  items = run.items ++ i.Atom (plain place operand).tree ∷ [];
  ops = run.ops;
  takes = false;
  height = max run.height (plain place operand).height;
}

-- the run with an operator and the operand behind it
abbrev pub with_operand : Run → Name → Fixity → At → Operand → Run
with_operand run name f place operand = record {
  items = (run.items ++ i.Operator name f ∷ []) ++ i.Atom (plain place operand).tree ∷ [];
  ops = open_after run.ops f;
  takes = takes operand;
  height = max run.height (plain place operand).height;
}

-- how a lexeme binds as an infix operator, if it is one: a name without structures before it that is infix
abbrev pub operator : Fixities → Lexeme → Option Fixity
operator fs x = if_name_of fs (name_of x)

-- whether a run goes on with this lexeme, an argument or an operator, where its last operand takes an argument or not
-- and these operators are open
abbrev pub going : Fixities → Bool → List Fixity → Lexeme → Bool
going fs takes ops x = (takes && starts_atpat fs x) || is_some (joining (operator fs x) ops)

abbrev pub goes_on : Fixities → Run → Lexeme → Bool
goes_on fs run x = going fs run.takes run.ops x

-- the operand behind an operator, behind its own first lexeme
unfoldable pub operand_joined : PatLevel → Run → Name → Fixity → Lexeme → g Run
operand_joined below run name f y = do
  operand ← below.atpat y
  pure (with_operand run name f (at y) operand)

-- what stands behind an operator
unfoldable pub operand_behind : Fixities → PatLevel → Run → Name → Fixity → g Run
operand_behind fs below run name f =
    on (starts_atpat fs) (operand_joined below run name f) refuse

-- an argument behind its first lexeme
unfoldable pub argument : PatLevel → Run → Lexeme → g Run
argument below run x = do
  operand ← below.atpat x
  pure (with_argument run (at x) operand)

abbrev pub by_operator : Fixities → PatLevel → Run → Lexeme → Option Fixity → g Run
by_operator fs below run x None = argument below run x
by_operator fs below run x (Some f) = operand_behind fs below run (named x (or_empty (name_of x))) f

-- one more part of a run, behind its first lexeme
abbrev pub run_step : Fixities → ℕ → PatLevel → Run → Lexeme → g Run
run_step fs levels below run x =
    within (nat_lt run.height levels) (by_operator fs below run x (joining (operator fs x) run.ops))

-- one more part of a run
unfoldable pub run_part : Fixities → ℕ → PatLevel → Run → g Run
run_part fs levels below run = on (goes_on fs run) (run_step fs levels below run) refuse

-- the parts of a run that are left
unfoldable pub run_on : Fixities → ℕ → PatLevel → Run → g Run
run_on fs levels below run = many (goes_on fs) (run_step fs levels below) run

abbrev pub whole_run : At → Run → Tall FullPat
whole_run place run = record { tree = p.Run run.items place; height = run.height + 1 }

-- ---- constraints and layers

-- a type that constrains what stands before it, behind the colon
abbrev pub constraint : g (Tall FullTy) → At → Tall FullPat → g (Tall FullPat)
constraint tys place left = do
  ty ← tys
  pure (over_two (λ (left : FullPat) (ty : FullTy). p.Typed left ty place) left ty)

-- one more type that constrains what stands before it, behind the colon
unfoldable pub constrained : ℕ → g (Tall FullTy) → At → Tall FullPat → g (Tall FullPat)
constrained levels tys place left = lower levels left (constraint tys place left)

-- types that constrain what stands before them
unfoldable pub typed : ℕ → g (Tall FullTy) → At → Tall FullPat → g (Tall FullPat)
typed levels tys place left = many (λ _ x. is w.Colon x) (λ left _. constrained levels tys place left) left

-- the name that an identifier is, if it has no structures before it
abbrev pub if_only : OpLong → Option (List ℕ) → Option OpName
if_only id None = None
if_only id (Some text) = Some (record { op = id.op; name = record { text = text; line = id.long.line; col = id.long.col } })

abbrev pub simple : OpLong → Option OpName
simple id = if_only id (only id.long.parts)

abbrev pub if_as : Bool → Option OpName → Option OpName
if_as true name = name
if_as false name = None

-- the name that a pattern is layered under, where the lexeme behind an identifier is `as`
abbrev pub layered : OpLong → Lexeme → Option OpName
layered id x = if_as (is w.As x) (simple id)

-- the pattern behind `as`
unfoldable pub layer : g (Tall FullPat) → At → OpName → Tall (Option FullTy) → g (Tall FullPat)
layer pat place name ty = do
  inner ← pat
  pure (record { tree = p.As name ty.tree inner.tree place; height = max ty.height inner.height + 1 })

-- a type that stands there
abbrev pub some_type : Tall FullTy → Tall (Option FullTy)
some_type ty = record { tree = Some ty.tree; height = ty.height }

-- no type
abbrev pub no_type : Tall (Option FullTy)
no_type = record { tree = None; height = 0 }

-- a name under its first type
abbrev pub id_under : At → OpLong → Tall FullTy → Tall FullPat
id_under place id ty = over_two (λ (left : FullPat) (ty : FullTy). p.Typed left ty place) (leaf_id place id) ty

-- behind a name and its first type
unfoldable pub behind_typed : ℕ → g (Tall FullTy) → PatLevel → At → OpLong → Tall FullTy → g (Tall FullPat)
behind_typed levels tys below place id ty =
    on (λ x. is_some (layered id x)) (λ x. given (λ name. layer below.pat place name (some_type ty)) (layered id x))
    (typed levels tys place (id_under place id ty))

-- behind a name and a colon
unfoldable pub typed_id : ℕ → g (Tall FullTy) → PatLevel → At → OpLong → g (Tall FullPat)
typed_id levels tys below place id = do
  first ← tys
  behind_typed levels tys below place id first

-- behind a name, where no pattern is layered under it
unfoldable pub behind_name : ℕ → g (Tall FullTy) → PatLevel → At → OpLong → g (Tall FullPat)
behind_name levels tys below place id =
    on (is w.Colon) (λ _. lower levels (leaf_id place id) (typed_id levels tys below place id)) (pure (leaf_id place id))

-- behind an identifier
unfoldable pub behind_id : ℕ → g (Tall FullTy) → PatLevel → At → OpLong → g (Tall FullPat)
behind_id levels tys below place id =
    on (λ x. is_some (layered id x)) (λ x. given (λ name. layer below.pat place name no_type) (layered id x))
    (behind_name levels tys below place id)

-- an operand that no run goes on from, and what stands behind it
abbrev pub alone : ℕ → g (Tall FullTy) → PatLevel → At → Operand → g (Tall FullPat)
alone levels tys below place (o.Id id) = behind_id levels tys below place id
alone levels tys below place (o.Other pat) = typed levels tys place pat

-- behind the second part of a run: the parts that are left, and constraints
unfoldable pub run_rest : Fixities → ℕ → g (Tall FullTy) → PatLevel → At → Run → g (Tall FullPat)
run_rest fs levels tys below place run = do
  all ← run_on fs levels below run
  typed levels tys place (whole_run place all)

abbrev pub run_from : Fixities → ℕ → g (Tall FullTy) → PatLevel → At → Run → Lexeme → g (Tall FullPat)
run_from fs levels tys below place run x = run_step fs levels below run x >>= run_rest fs levels tys below place

-- a run of several parts, of which the first was read
unfoldable pub run_of : Fixities → ℕ → g (Tall FullTy) → PatLevel → At → Run → g (Tall FullPat)
run_of fs levels tys below place run = run_part fs levels below run >>= run_rest fs levels tys below place

-- behind the first operand of a pattern: more of its run, or what may stand behind an operand alone
unfoldable pub behind_operand : Fixities → ℕ → g (Tall FullTy) → PatLevel → At → Operand → g (Tall FullPat)
behind_operand fs levels tys below place operand =
    on (goes_on fs (start place operand)) (run_from fs levels tys below place (start place operand))
    (alone levels tys below place operand)

-- a pattern behind its first lexeme
unfoldable pub pat_after : Fixities → ℕ → g (Tall FullTy) → PatLevel → Lexeme → g (Tall FullPat)
pat_after fs levels tys below x = do
  operand ← atpat_after tys below.pat x
  behind_operand fs levels tys below (at x) operand

-- a pattern behind its opening parenthesis
unfoldable pub pat_behind_paren : Fixities → ℕ → g (Tall FullTy) → PatLevel → At → g (Tall FullPat)
pat_behind_paren fs levels tys below place = do
  first ← in_parens below.pat place
  behind_operand fs levels tys below place (o.Other first)

-- ---- levels

-- the phrases with so many levels, over those with one less
abbrev pub level_of : Fixities → ℕ → g (Tall FullTy) → PatLevel → PatLevel
level_of fs levels tys below = record {
  pat = on (starts_atpat fs) (pat_after fs levels tys below) refuse;
  atpat = atpat_after tys below.pat;
}

-- where no level is left, whatever begins a pattern is one too many
abbrev pub no_level : Fixities → PatLevel
no_level fs = record {
  pat = on (starts_atpat fs) (λ _. within false refuse) refuse;
  atpat = λ _. within false refuse;
}

unfoldable pub pat_level : Fixities → ℕ → PatLevel
pat_level fs zero = no_level fs
pat_level fs (suc n) = level_of fs (suc n) (ty n) (pat_level fs n)

-- a pattern that nests at most so many levels
abbrev pub pat : Fixities → ℕ → g (Tall FullPat)
pat fs levels = (pat_level fs levels).pat

-- the same behind its first lexeme
unfoldable pub pat_behind : Fixities → ℕ → Lexeme → g (Tall FullPat)
pat_behind fs levels x =
    within (nat_lt 0 levels) (pat_after fs levels (ty (levels - 1)) (pat_level fs (levels - 1)) x)

-- an atomic pattern that nests at most so many levels
unfoldable pub atpat : Fixities → ℕ → g (Tall FullPat)
atpat fs levels = on (starts_atpat fs) (λ x. do operand ← (pat_level fs levels).atpat x; pure (plain (at x) operand)) refuse
