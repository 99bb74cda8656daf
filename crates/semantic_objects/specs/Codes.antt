-- How the logic stores trees and schemes: as trees of numbers that give them back.
use Rattle.std.specs.Prelude.{◌≡◌, refl, List, Bool}
use Rattle.std.specs.Coded.{Coded, coded_list, coded_bool}
use base.Stored.{Gv, gnil, gnum, gcons}
use mathlib.Core.Path.{ap, ap₂}
use Rattle.semantic_objects.specs.declared.symbol.Symbol.{Symbol}
use Rattle.semantic_objects.specs.contracts.symbol.Symbol.{the_row}
use Rattle.semantic_objects.specs.Trees.{Tree, Trees, TypeScheme}

abbrev pub symbol_code : Coded Symbol
symbol_code = the_row.coded

abbrev mutual
  pub tree_number : Tree → Gv
  tree_number (Tree.Bound i) = gnum i
  tree_number (Tree.Free n) = gcons gnil (gnum n)
  tree_number (Tree.Made c ts) = gcons (gcons gnil (symbol_code.code c)) (trees_number ts)

  pub trees_number : Trees → Gv
  trees_number Trees.Nil = gnil
  trees_number (Trees.Cons t ts) = gcons (tree_number t) (trees_number ts)

mutual
  pub tree_back : (x y : Tree) → tree_number x ≡ tree_number y → x ≡ y
  tree_back (Tree.Bound i) (Tree.Bound j) e = ap Tree.Bound (let k : i ≡ j = cc in k)
  tree_back (Tree.Bound i) (Tree.Free m) e = absurd (cc)
  tree_back (Tree.Bound i) (Tree.Made d us) e = absurd (cc)
  tree_back (Tree.Free n) (Tree.Bound j) e = absurd (cc)
  tree_back (Tree.Free n) (Tree.Free m) e = ap Tree.Free (let k : n ≡ m = cc in k)
  tree_back (Tree.Free n) (Tree.Made d us) e = absurd (cc)
  tree_back (Tree.Made c ts) (Tree.Bound j) e = absurd (cc)
  tree_back (Tree.Made c ts) (Tree.Free m) e = absurd (cc)
  tree_back (Tree.Made c ts) (Tree.Made d us) e =
      let k : symbol_code.code c ≡ symbol_code.code d = cc in
      let l : trees_number ts ≡ trees_number us = cc in
      ap₂ Tree.Made (symbol_code.inj c d k) (trees_back ts us l)

  pub trees_back : (xs ys : Trees) → trees_number xs ≡ trees_number ys → xs ≡ ys
  trees_back Trees.Nil Trees.Nil e = refl
  trees_back Trees.Nil (Trees.Cons u us) e = absurd (cc)
  trees_back (Trees.Cons t ts) Trees.Nil e = absurd (cc)
  trees_back (Trees.Cons t ts) (Trees.Cons u us) e =
      let k : tree_number t ≡ tree_number u = cc in
      let l : trees_number ts ≡ trees_number us = cc in
      ap₂ Trees.Cons (tree_back t u k) (trees_back ts us l)

abbrev pub tree_code : Coded Tree
tree_code = record { code = tree_number; inj = tree_back }

abbrev pub marks_code : Coded (List Bool)
marks_code = coded_list coded_bool

abbrev pub scheme_number : TypeScheme → Gv
scheme_number σ = gcons (marks_code.code σ.marks) (tree_number σ.body)

scheme_of : (m n : List Bool) (t u : Tree) → m ≡ n → t ≡ u
    → (let x : TypeScheme = record { marks = m; body = t } in x)
    ≡ (let y : TypeScheme = record { marks = n; body = u } in y)
scheme_of m n t u h k = cc

pub scheme_back : (σ τ : TypeScheme) → scheme_number σ ≡ scheme_number τ → σ ≡ τ
scheme_back σ τ e =
    let k : marks_code.code σ.marks ≡ marks_code.code τ.marks = cc in
    let l : tree_number σ.body ≡ tree_number τ.body = cc in
    scheme_of σ.marks τ.marks σ.body τ.body (marks_code.inj σ.marks τ.marks k) (tree_back σ.body τ.body l)

abbrev pub scheme_code : Coded TypeScheme
scheme_code = record { code = scheme_number; inj = scheme_back }
