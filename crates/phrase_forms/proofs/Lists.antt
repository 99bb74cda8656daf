-- The last item of a list, taken first.
use Rattle.std.proofs.Common.{◌≡◌, List, [], ◌∷◌, ◌++◌, refl, ap}
use Rattle.sml_trees.specs.declared.name.At.{At}
use Rattle.sml_trees.specs.declared.pat.Pat.{Pat}
use Rattle.bare_forms.specs.declared.placed.PlacedPat.{PlacedPat}
use Rattle.bare_forms.specs.Patterns.{cons_pat, rest_pat, items_pat, cons_place}

rest_pat-append : (ps : List PlacedPat) (p : PlacedPat) (rest : Pat)
    → rest_pat (ps ++ p ∷ []) rest ≡ rest_pat ps (cons_pat p.at p.pat rest)
rest_pat-append [] p rest = refl
rest_pat-append (q ∷ ps) p rest = ap (cons_pat q.at q.pat) (rest_pat-append ps p rest)

pub items_pat-append : (at : At) (ps : List PlacedPat) (p : PlacedPat) (rest : Pat)
    → items_pat at (ps ++ p ∷ []) rest ≡ items_pat at ps (cons_pat (cons_place at ps p.at) p.pat rest)
items_pat-append at [] p rest = refl
items_pat-append at (q ∷ ps) p rest = ap (cons_pat at q.pat) (rest_pat-append ps p rest)

pub ruleset pat_steps = (items_pat-append)
