-- Which operators may not stand together in a run, said of all its operators (The Definition of Standard ML, section
-- 2.6): two of equal strength and different sides with only stronger ones between them.
use Rattle.std.specs.Prelude.{◌≡◌, ◌++◌, ◌↔◌, List, [], ◌∷◌, true, nat_lt}
use Rattle.std.specs.List.{list_all}
use Rattle.sml_trees.specs.declared.full_pat.Fixity.{Fixity}
use Rattle.infix_names.specs.Fixities.{open_after, clash, clashes}

-- behind these operators this one would stand behind one of equal strength and the other side, with only stronger ones
-- between them
abbrev pub MayNotFollow : List Fixity → Fixity → Type 0
MayNotFollow ops f =
    (before : List Fixity) × (op : Fixity) × (between : List Fixity) × (ops ≡ before ++ op ∷ between)
    × (clashes f op ≡ true) × (list_all (λ o. nat_lt f.strength o.strength) between ≡ true)

-- the operators of a run that are open behind all of these, where those were open before
abbrev pub open_behind : List Fixity → List Fixity → List Fixity
open_behind held [] = held
open_behind held (op ∷ ops) = open_behind (open_after held op) ops

-- an operator clashes with those of a run that are open exactly where it may not follow all its operators
abbrev pub ClashesByRule : Type 0
ClashesByRule = (ops : List Fixity) (f : Fixity) → (clash f (open_behind [] ops) ≡ true) ↔ MayNotFollow ops f
