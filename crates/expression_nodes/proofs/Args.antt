-- The last argument of a function, taken first.
use Rattle.std.proofs.Common.{◌≡◌, ℕ, zero, suc, ◌+◌, List, [], ◌∷◌, ◌++◌, length, refl, ap, ◌∙◌, append_assoc, arith}
use Rattle.std.proofs.lemmas.List.{reverse-append, reverse-reverse}
use Rattle.sml_trees.specs.declared.name.At.{At}
use Rattle.sml_trees.specs.declared.exp.Exp.{Exp}
use Rattle.sml_trees.specs.declared.pat.Pat.TheVariants as pat
use Rattle.sml_trees.specs.declared.pat.PatField.{PatField, roll-PatField}
use Rattle.bare_forms.specs.declared.placed.PlacedPat.{PlacedPat}
use Rattle.bare_forms.specs.Types.{label_of}
use Rattle.bare_forms.specs.Patterns.{pat_fields_from}
use Rattle.sml_trees.specs.declared.exp.ExpField.{ExpField}
use Rattle.bare_forms.specs.declared.placed.PlacedExp.{PlacedExp}
use Rattle.bare_forms.specs.Nodes.{field, exp_fields_from, args_place, args_pat, arg_fn, curried}

-- the last field of a tuple
fields-append : (at : At) (n : ℕ) (ps : List PlacedPat) (p : PlacedPat)
    → pat_fields_from at n (ps ++ p ∷ [])
    ≡ pat_fields_from at n ps ++ roll-PatField (record { label = label_of at (n + length ps); pat = p.pat }) ∷ []
fields-append at n [] p =
    let number : n ≡ n + 0 = omega arith in
    ap (λ k. roll-PatField (record { label = label_of at k; pat = p.pat }) ∷ []) number
fields-append at n (q ∷ ps) p =
    let numbers : suc n + length ps ≡ n + length (q ∷ ps) = omega arith in
    ap (λ fields. roll-PatField (record { label = label_of at n; pat = q.pat }) ∷ fields)
    (fields-append at (suc n) ps p
    ∙ ap (λ k. pat_fields_from at (suc n) ps ++ roll-PatField (record { label = label_of at k; pat = p.pat }) ∷ []) numbers)

-- .. whose number is that of all parts
pub pat_fields-append : (at : At) (ps : List PlacedPat) (p : PlacedPat) (number : ℕ) → number ≡ length ps + 1
    → pat_fields_from at 1 (ps ++ p ∷ [])
    ≡ pat_fields_from at 1 ps ++ roll-PatField (record { label = label_of at number; pat = p.pat }) ∷ []
pat_fields-append at ps p number is =
    let numbers : 1 + length ps ≡ number = omega (arith, is) in
    fields-append at 1 ps p
    ∙ ap (λ k. pat_fields_from at 1 ps ++ roll-PatField (record { label = label_of at k; pat = p.pat }) ∷ []) numbers

-- the pattern of one argument, and of none or more
pub args_pat-one : (at : At) (last : PlacedPat) → args_pat at (last ∷ []) ≡ last.pat
args_pat-one at last = refl

pub args_pat-others : (at : At) (args : List PlacedPat) → (length args ≡ 1 → ⊥)
    → args_pat at args
    ≡ pat.Record (pat_fields_from (args_place at args) 1 args) (args_place at args)
args_pat-others at [] more = refl
args_pat-others at (p ∷ []) more = absurd (more refl)
args_pat-others at (p ∷ q ∷ ps) more = refl

pub ruleset only_steps = (args_pat-one, args_pat-others)

-- .. whose number is one more than those before it
pub pat_fields-step : (at : At) (ps : List PlacedPat) (p : PlacedPat)
    → pat_fields_from at 1 (ps ++ p ∷ [])
    ≡ pat_fields_from at 1 ps ++ roll-PatField (record { label = label_of at (length ps + 1); pat = p.pat }) ∷ []
pat_fields-step at ps p = pat_fields-append at ps p (length ps + 1) refl

pub ruleset field_steps = (pat_fields-step, reverse-append, append_assoc)

-- the last part of a tuple of expressions
exp_fields-append : (at : At) (n : ℕ) (ps : List PlacedExp) (p : PlacedExp)
    → exp_fields_from at n (ps ++ p ∷ []) ≡ exp_fields_from at n ps ++ field (label_of at (n + length ps)) p.exp ∷ []
exp_fields-append at n [] p =
    let number : n ≡ n + 0 = omega arith in ap (λ k. field (label_of at k) p.exp ∷ []) number
exp_fields-append at n (q ∷ ps) p =
    let numbers : suc n + length ps ≡ n + length (q ∷ ps) = omega arith in
    ap (λ fields. field (label_of at n) q.exp ∷ fields)
    (exp_fields-append at (suc n) ps p
    ∙ ap (λ k. exp_fields_from at (suc n) ps ++ field (label_of at k) p.exp ∷ []) numbers)

pub exp_fields-step : (at : At) (ps : List PlacedExp) (p : PlacedExp)
    → exp_fields_from at 1 (ps ++ p ∷ [])
    ≡ exp_fields_from at 1 ps ++ field (label_of at (length ps + 1)) p.exp ∷ []
exp_fields-step at ps p =
    let numbers : 1 + length ps ≡ length ps + 1 = omega arith in
    exp_fields-append at 1 ps p ∙ ap (λ k. exp_fields_from at 1 ps ++ field (label_of at k) p.exp ∷ []) numbers

pub ruleset exp_field_steps = (exp_fields-step, reverse-append, append_assoc)

-- what is taken from the end of a list in reverse
pub ruleset reverse_steps = (reverse-append, reverse-reverse, append_assoc)

-- the last argument of a function
curried-last : (at : At) (n count : ℕ) (body : Exp)
    → curried at n (suc count) body ≡ curried at n count (arg_fn at (n + count) body)
curried-last at n zero body =
    let number : n ≡ n + 0 = omega arith in ap (λ k. arg_fn at k body) number
curried-last at n (suc count) body =
    let numbers : suc n + count ≡ n + suc count = omega arith in
    ap (arg_fn at n) (curried-last at (suc n) count body ∙ ap (λ k. curried at (suc n) count (arg_fn at k body)) numbers)

pub curried-step : (at : At) (number count : ℕ) (body : Exp) → number ≡ count + 1
    → curried at 1 number body ≡ curried at 1 count (arg_fn at number body)
curried-step at number count body is =
    let last : 1 + count ≡ number = omega (arith, is) in
    let numbers : number ≡ suc count = omega (arith, is) in
    ap (λ k. curried at 1 k body) numbers ∙ curried-last at 1 count body
    ∙ ap (λ k. curried at 1 count (arg_fn at k body)) last

pub ruleset curried_steps = (curried-step)
