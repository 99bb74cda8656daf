-- How high the nodes are that derived forms are made of, by the heights of their parts.
use Rattle.std.specs.Prelude.{ℕ, zero, suc, max, Bool, true, false, List, [], ◌∷◌}
use Rattle.sml_trees.specs.declared.name.Name.{Name}
use Rattle.tree_heights.specs.declared.height_node.RunHeight.{RunHeight}
use Rattle.tree_heights.specs.declared.height_pat.PatHeight.{PatHeight}

-- ---- nodes

-- `a :: b`, and any name with a pair
abbrev pub cons_height : ℕ → ℕ → ℕ
cons_height a b = suc (suc (max a b))

-- .. where the name is an expression, one level itself
abbrev pub pair_height : ℕ → ℕ → ℕ
pair_height a b = suc (max 1 (suc (max a b)))

-- `case subject of rules`
abbrev pub case_height : ℕ → ℕ → ℕ
case_height subject rules = suc (max (suc rules) subject)

-- `if test then first else second`
abbrev pub if_height : ℕ → ℕ → ℕ → ℕ
if_height test first second = case_height test (max (max 1 first) (max 1 second))

-- `(a; b)`
abbrev pub then_height : ℕ → ℕ → ℕ
then_height a b = case_height a (max 1 b)

-- `while test do body`: its function, and all of it; a call of the function is two levels
abbrev pub loop_height : ℕ → ℕ → ℕ
loop_height test body = suc (max 1 (if_height test (then_height body 2) 1))

abbrev pub while_height : ℕ → ℕ → ℕ
while_height test body = suc (max (suc (suc (max 1 (loop_height test body)))) 2)

-- ---- items one after another

-- whether there is none
abbrev pub is_none : {A : Type 0} → List A → Bool
is_none [] = true
is_none (x ∷ xs) = false

-- what is made of items of these heights, of which each node holds what the rest makes, and ends in this
abbrev pub in_turn : (ℕ → ℕ → ℕ) → List ℕ → ℕ → ℕ
in_turn node [] rest = rest
in_turn node (height ∷ heights) rest = node height (in_turn node heights rest)

-- a list of expressions, and one of patterns
abbrev pub exps_height : List ℕ → ℕ
exps_height items = in_turn pair_height items 1

abbrev pub pats_height : List ℕ → ℕ
pats_height items = in_turn cons_height items 1

abbrev pub sequence_from : ℕ → List ℕ → ℕ
sequence_from height [] = height
sequence_from height (next ∷ heights) = then_height height (sequence_from next heights)

abbrev pub sequence_height : List ℕ → ℕ
sequence_height [] = 1
sequence_height (height ∷ heights) = sequence_from height heights

-- ---- runs

abbrev pub run_height : ℕ → RunHeight
run_height height = record { height = height }

abbrev pub joined_exp_height : Name → RunHeight → RunHeight → RunHeight
joined_exp_height op left right = run_height (pair_height left.height right.height)

abbrev pub applied_exp_height : RunHeight → RunHeight → RunHeight
applied_exp_height function arg = run_height (suc (max function.height arg.height))

abbrev pub missing_exp_height : RunHeight
missing_exp_height = run_height 1

-- .. of patterns
abbrev pub pat_of : ℕ → Bool → PatHeight
pat_of height is_long = record { height = height; is_long = is_long }

abbrev pub joined_pat_height : Name → PatHeight → PatHeight → PatHeight
joined_pat_height op left right = pat_of (cons_height left.height right.height) false

abbrev pub con_height_of : Bool → PatHeight → PatHeight → ℕ
con_height_of true con arg = suc arg.height
con_height_of false con arg = con.height

abbrev pub applied_pat_height : PatHeight → PatHeight → PatHeight
applied_pat_height con arg = pat_of (con_height_of con.is_long con arg) false

abbrev pub missing_pat_height : PatHeight
missing_pat_height = pat_of 1 false

-- ---- functions

-- `fn %i => .. fn %n => body`
abbrev pub curried_height : ℕ → ℕ → ℕ
curried_height zero body = body
curried_height (suc more) body = suc (max 1 (curried_height more body))

-- `%1`, or `(%1, .., %n)`
abbrev pub subject_height : ℕ → ℕ
subject_height zero = 1
subject_height (suc zero) = 1
subject_height (suc (suc n)) = 2
