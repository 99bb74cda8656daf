-- The nodes that derived forms of expressions and declarations are made of.
use Rattle.std.specs.Prelude.{ℕ, zero, suc, List, [], ◌∷◌, length, map, codes}
use Rattle.std.specs.Fmt.{decimal}
use Rattle.sml_trees.specs.declared.name.At.{At}
use Rattle.sml_trees.specs.declared.name.Name.{Name}
use Rattle.sml_trees.specs.declared.full_pat.Constant.{Constant}
use Rattle.sml_trees.specs.declared.full_pat.Constant.TheVariants as constant
use Rattle.sml_trees.specs.declared.pat.Pat.{Pat}
use Rattle.sml_trees.specs.declared.pat.Pat.TheVariants as pat
use Rattle.sml_trees.specs.declared.exp.Dec.{Dec}
use Rattle.sml_trees.specs.declared.exp.Dec.TheVariants as dec
use Rattle.sml_trees.specs.declared.exp.Exp.{Exp}
use Rattle.sml_trees.specs.declared.exp.Exp.TheVariants as exp
use Rattle.sml_trees.specs.declared.exp.ExpField.{ExpField, roll-ExpField}
use Rattle.sml_trees.specs.declared.exp.Rule.{Rule, roll-Rule}
use Rattle.bare_forms.specs.declared.placed.PlacedPat.{PlacedPat}
use Rattle.bare_forms.specs.declared.placed.BareClause.{BareClause}
use Rattle.bare_forms.specs.declared.placed.PlacedExp.{PlacedExp}
use Rattle.bare_forms.specs.Types.{label_of}
use Rattle.bare_forms.specs.Patterns.{at_name, long_name, long_at, pat_fields_from}

-- ---- the nodes of one form

abbrev pub placed_exp : At → Exp → PlacedExp
placed_exp at exp = record { at = at; exp = exp }

abbrev pub rule : Pat → Exp → Rule
rule pat exp = roll-Rule (record { pat = pat; exp = exp })

abbrev pub field : Name → Exp → ExpField
field label exp = roll-ExpField (record { label = label; exp = exp })

abbrev pub constant_exp : Constant → At → Exp
constant_exp (constant.Int n) at = exp.Int n at
constant_exp (constant.Str text) at = exp.Str text at
constant_exp (constant.Char byte) at = exp.Char byte at

-- a pattern and an expression of one part
abbrev pub long_pat : At → List ℕ → Pat
long_pat at text = pat.Long (long_at at text) at

abbrev pub long_exp : At → List ℕ → Exp
long_exp at text = exp.Long (long_at at text) at

-- `()`
abbrev pub unit_exp : At → Exp
unit_exp at = exp.Record [] at

abbrev pub pair_exp : At → Exp → Exp → Exp
pair_exp at a b = exp.Record (field (label_of at 1) a ∷ field (label_of at 2) b ∷ []) at

-- the fields of a tuple whose first part has this number
abbrev pub exp_fields_from : At → ℕ → List PlacedExp → List ExpField
exp_fields_from at number [] = []
exp_fields_from at number (part ∷ parts) = field (label_of at number) part.exp ∷ exp_fields_from at (suc number) parts

-- The Definition, Appendix A, expressions: `(exp1, .., expn)` is `{1 = exp1, .., n = expn}`
abbrev pub tuple_exp : At → List PlacedExp → Exp
tuple_exp at parts = exp.Record (exp_fields_from at 1 parts) at

abbrev pub one_rule : Pat → Exp → List Rule
one_rule pat exp = rule pat exp ∷ []

-- The Definition, Appendix A, expressions: `case exp of match` is `(fn match) (exp)`
abbrev pub case_exp : At → Exp → List Rule → Exp
case_exp at subject rules = exp.App (exp.Fn rules at) subject at

-- .. `if exp1 then exp2 else exp3` is `case exp1 of true => exp2 | false => exp3`
abbrev pub if_exp : At → Exp → Exp → Exp → Exp
if_exp at test first second =
    case_exp at test (rule (long_pat at (codes "true")) first ∷ rule (long_pat at (codes "false")) second ∷ [])

-- .. `exp1 orelse exp2` is `if exp1 then true else exp2`
abbrev pub or_else : At → Exp → Exp → Exp
or_else at a b = if_exp at a (long_exp at (codes "true")) b

-- .. `exp1 andalso exp2` is `if exp1 then exp2 else false`
abbrev pub and_also : At → Exp → Exp → Exp
and_also at a b = if_exp at a b (long_exp at (codes "false"))

-- .. `(exp1; exp2)` is `case exp1 of (_) => exp2`
abbrev pub then_exp : At → Exp → Exp → Exp
then_exp at a b = case_exp at a (rule (pat.Wild at) b ∷ [])

-- .. `while exp1 do exp2` is
-- `let val rec vid = fn () => if exp1 then (exp2; vid()) else () in vid() end`, where no source has the `vid`
abbrev pub while_name : List ℕ
while_name = codes "%0"

abbrev pub while_call : At → Exp
while_call at = exp.App (long_exp at while_name) (unit_exp at) at

abbrev pub while_body : At → Exp → Exp → Exp
while_body at test body =
    exp.Fn (rule (pat.Record [] at) (if_exp at test (then_exp at body (while_call at)) (unit_exp at)) ∷ []) at

abbrev pub while_dec : At → Exp → Exp → Dec
while_dec at test body = dec.Val [] [] (rule (long_pat at while_name) (while_body at test body) ∷ []) at

abbrev pub while_exp : At → Exp → Exp → Exp
while_exp at test body = exp.Let (dec.Sequence (while_dec at test body ∷ []) at) (while_call at) at

-- ---- lists and sequences

-- `exp1 :: exp2`, where neither the `::` nor the tuple is written
abbrev pub cons_exp : At → Exp → Exp → Exp
cons_exp at a b = exp.App (long_exp at (codes "::")) (pair_exp at a b) at

-- what is made of items one after another, of which the node of each begins at its item, and ends in this
abbrev pub rest_exp : (At → Exp → Exp → Exp) → List PlacedExp → Exp → Exp
rest_exp node [] rest = rest
rest_exp node (p ∷ ps) rest = node p.at p.exp (rest_exp node ps rest)

-- .. where the first node begins where all of it begins
abbrev pub items_exp : (At → Exp → Exp → Exp) → At → List PlacedExp → Exp → Exp
items_exp node at [] rest = rest
items_exp node at (p ∷ ps) rest = node at p.exp (rest_exp node ps rest)

-- .. of which the node that follows these items begins here
abbrev pub node_place : At → List PlacedExp → At → At
node_place at [] item = at
node_place at (p ∷ ps) item = item

-- The Definition, Appendix A, expressions: `[exp1, .., expn]` is `exp1 :: .. :: expn :: nil`
abbrev pub list_exp : At → List PlacedExp → Exp
list_exp at items = items_exp cons_exp at items (long_exp at (codes "nil"))

-- .. `(exp1; ..; expn; exp)` is `case exp1 of (_) => .. case expn of (_) => exp`; no source has an empty one
abbrev pub sequence_from : At → PlacedExp → List PlacedExp → Exp
sequence_from at p [] = p.exp
sequence_from at p (q ∷ qs) = then_exp at p.exp (sequence_from q.at q qs)

abbrev pub sequence_exp : At → List PlacedExp → Exp
sequence_exp at [] = unit_exp at
sequence_exp at (p ∷ ps) = sequence_from at p ps

-- .. `let dec in exp1; ..; expn end` is `let dec in (exp1; ..; expn) end`, whose sequence begins at its first
abbrev pub first_place : At → List PlacedExp → At
first_place at [] = at
first_place at (p ∷ ps) = p.at

abbrev pub body_exp : At → List PlacedExp → Exp
body_exp at items = sequence_exp (first_place at items) items

-- ---- runs

-- The Definition, Appendix A, expressions: `exp1 vid exp2` is `op vid (exp1, exp2)`, and begins where `exp1` begins
abbrev pub joined_exp : Name → PlacedExp → PlacedExp → PlacedExp
joined_exp op left right = placed_exp left.at
    (exp.App (exp.Long (long_name op) (at_name op)) (pair_exp left.at left.exp right.exp) left.at)

-- an application begins where its function begins
abbrev pub applied_exp : PlacedExp → PlacedExp → PlacedExp
applied_exp function arg = placed_exp function.at (exp.App function.exp arg.exp function.at)

-- what stands for an operand that is missing, which no source leaves out
abbrev pub missing_exp : At → PlacedExp
missing_exp at = placed_exp at (unit_exp at)

-- ---- functions

-- the name of an argument, which no source has
abbrev pub arg_text : ℕ → List ℕ
arg_text number = 37 ∷ decimal number

-- the arguments of a function from this number on, as many as these patterns, as the fields of a tuple
abbrev pub subject_fields : At → ℕ → List PlacedPat → List ExpField
subject_fields at number [] = []
subject_fields at number (p ∷ ps) =
    field (label_of at number) (long_exp at (arg_text number)) ∷ subject_fields at (suc number) ps

-- `%1`, or `(%1, .., %n)`
abbrev pub subject_exp : At → List PlacedPat → Exp
subject_exp at [] = unit_exp at
subject_exp at (p ∷ []) = long_exp at (arg_text 1)
subject_exp at (p ∷ q ∷ ps) = exp.Record (subject_fields at 1 (p ∷ q ∷ ps)) at

-- the pattern of a clause: `p1`, or `(p1, .., pn)`, which begins at its first
abbrev pub args_place : At → List PlacedPat → At
args_place at [] = at
args_place at (p ∷ ps) = p.at

abbrev pub args_pat : At → List PlacedPat → Pat
args_pat at [] = pat.Record [] at
args_pat at (p ∷ []) = p.pat
args_pat at (p ∷ q ∷ ps) = pat.Record (pat_fields_from p.at 1 (p ∷ q ∷ ps)) p.at

abbrev pub clause_rule : BareClause → Rule
clause_rule clause = rule (args_pat clause.at clause.args) clause.body

-- `fn %i => body`
abbrev pub arg_fn : At → ℕ → Exp → Exp
arg_fn at number body = exp.Fn (rule (long_pat at (arg_text number)) body ∷ []) at

-- `fn %i => .. fn %n => body`
abbrev pub curried : At → ℕ → ℕ → Exp → Exp
curried at number zero body = body
curried at number (suc more) body = arg_fn at number (curried at (suc number) more body)

-- the function of a first clause with this name and these arguments
abbrev pub fun_of : At → Name → List PlacedPat → List Rule → Rule
fun_of at name args rules = rule (pat.Long (long_name name) (at_name name))
    (curried at 1 (length args) (case_exp at (subject_exp at args) rules))

-- The Definition, Appendix A, function-value bindings: `vid atpat11 .. atpat1n <: ty> = exp1 | ..` is
-- `vid = fn vid1 => .. fn vidn => case (vid1, .., vidn) of (atpat11, .., atpat1n) => exp1 <: ty> | ..`;
-- no source has a function without clauses
abbrev pub fun_rule : At → List BareClause → Rule
fun_rule at [] = rule (pat.Wild at) (exp.Fn [] at)
fun_rule at (clause ∷ clauses) = fun_of at clause.name clause.args (map clause_rule (clause ∷ clauses))
