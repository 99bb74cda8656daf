-- The last item of a list, taken first.
use Rattle.std.proofs.Common.{◌≡◌, List, [], ◌∷◌, ◌++◌, refl, ap}
use Rattle.sml_trees.specs.declared.name.At.{At}
use Rattle.sml_trees.specs.declared.exp.Exp.{Exp}
use Rattle.bare_forms.specs.declared.placed.PlacedExp.{PlacedExp}
use Rattle.bare_forms.specs.Nodes.{then_exp, rest_exp, items_exp, node_place, sequence_from, sequence_exp}

rest_exp-append : (node : At → Exp → Exp → Exp) (ps : List PlacedExp) (p : PlacedExp) (rest : Exp)
    → rest_exp node (ps ++ p ∷ []) rest ≡ rest_exp node ps (node p.at p.exp rest)
rest_exp-append node [] p rest = refl
rest_exp-append node (q ∷ ps) p rest = ap (node q.at q.exp) (rest_exp-append node ps p rest)

pub items_exp-append : (node : At → Exp → Exp → Exp) (at : At) (ps : List PlacedExp) (p : PlacedExp) (rest : Exp)
    → items_exp node at (ps ++ p ∷ []) rest ≡ items_exp node at ps (node (node_place at ps p.at) p.exp rest)
items_exp-append node at [] p rest = refl
items_exp-append node at (q ∷ ps) p rest = ap (node at q.exp) (rest_exp-append node ps p rest)

sequence_from-append : (at : At) (q : PlacedExp) (ps : List PlacedExp) (p : PlacedExp)
    → sequence_from at q (ps ++ p ∷ []) ≡ then_exp at q.exp (rest_exp then_exp ps p.exp)
sequence_from-append at q [] p = refl
sequence_from-append at q (r ∷ ps) p = ap (then_exp at q.exp) (sequence_from-append r.at r ps p)

pub sequence_exp-append : (at : At) (ps : List PlacedExp) (p : PlacedExp)
    → sequence_exp at (ps ++ p ∷ []) ≡ items_exp then_exp at ps p.exp
sequence_exp-append at [] p = refl
sequence_exp-append at (q ∷ ps) p = sequence_from-append at q ps p

pub ruleset exp_steps = (items_exp-append, sequence_exp-append)
