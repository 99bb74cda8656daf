-- Lines that are taken one after another choose what the tree that they spell chooses: by induction on the tree, with
-- any lines behind it.
use Rattle.std.proofs.Common.{◌≡◌, ℕ, Bool, true, false, not, ◌&&◌, List, [], ◌∷◌, ◌++◌, Option, Some, None, Result, Ok, Err, refl, ap, sym, ◌∙◌, append_assoc, append-nil, ℤ}
use Rattle.cm_base.specs.declared.diag.Diag.{Diag}
use Rattle.cm_base.specs.Diags.{◌>>=◌}
use Rattle.cm_conditions.specs.Chosen.{is_taken, chosen, branches_chosen}
use Rattle.cm_conditions.specs.Nesting.{Part, Branches, lines_of, branch_lines}
use Rattle.cm_conditions.specs.Taking.{branch, state, last_before, popped, closed_by, after_all}
use Rattle.cm_conditions.specs.declared.cond.Cond.{Cond}
use Rattle.cm_conditions.specs.declared.line.Line.{Line}
use Rattle.cm_conditions.specs.declared.selection.Branch.{Branch}
use Rattle.cm_conditions.specs.declared.selection.Selection.{Selection}

-- ---- refusals in sequence

pub then_then : {A B C : Type 0} (m : Result A Diag) (f : A → Result B Diag) (g : B → Result C Diag)
    → (m >>= f) >>= g ≡ m >>= (λ a. f a >>= g)
then_then (Ok a) f g = refl
then_then (Err d) f g = refl

pub then_same : {A B : Type 0} (m : Result A Diag) (f g : A → Result B Diag) → ((a : A) → f a ≡ g a) → m >>= f ≡ m >>= g
then_same (Ok a) f g h = h a
then_same (Err d) f g h = refl

-- ---- the branch that was pushed last is popped

pub popped_end : (around : List Branch) (outer : Branch) → popped (around ++ outer ∷ []) ≡ Some (outer, around)
popped_end [] outer = refl
popped_end (first ∷ around) outer = ap (λ p. Some (last_before first p)) (popped_end around outer)

-- .. which is how a list is popped
pub popped_is : (old new : List Branch) (last : Branch) → old ≡ new ++ last ∷ [] → popped old ≡ Some (last, new)
popped_is old new last h = ap popped h ∙ popped_end new last

pub popped_none : (old : List Branch) → old ≡ [] → popped old ≡ None
popped_none old h = ap popped h

pub ruleset popped_steps = (popped_is, popped_none)

-- ---- items that are added in parts

two_adds : (value : Cond → Option ℤ) (xs : List Line) (a b c : List ℕ) (here : Branch) (around : List Branch)
    → after_all value xs (state ((a ++ b) ++ c) here around) ≡ after_all value xs (state (a ++ (b ++ c)) here around)
two_adds value xs a b c here around = ap (λ items. after_all value xs (state items here around)) (append_assoc a b c)

no_adds : (value : Cond → Option ℤ) (xs : List Line) (a : List ℕ) (here : Branch) (around : List Branch)
    → after_all value xs (state a here around) ≡ after_all value xs (state (a ++ []) here around)
no_adds value xs a here around = ap (λ items. after_all value xs (state items here around)) (sym (append-nil a))

-- behind the parts of a branch and the branches that follow
abbrev after_two : (value : Cond → Option ℤ) → List Line → List ℕ → Branch → List Branch → Result (List ℕ) Diag
    → Result (List ℕ) Diag → Result Selection Diag
after_two value xs a here around p q = p >>= (λ b. q >>= (λ c. after_all value xs (state ((a ++ b) ++ c) here around)))

two_parts : (value : Cond → Option ℤ) (xs : List Line) (a : List ℕ) (here : Branch) (around : List Branch)
    (p q : Result (List ℕ) Diag)
    → after_two value xs a here around p q
    ≡ (p >>= (λ b. q >>= (λ c. Ok (b ++ c)))) >>= (λ ns. after_all value xs (state (a ++ ns) here around))
two_parts value xs a here around (Err d) q = refl
two_parts value xs a here around (Ok b) (Err d) = refl
two_parts value xs a here around (Ok b) (Ok c) = two_adds value xs a b c here around

three_parts : (value : Cond → Option ℤ) (xs : List Line) (a : List ℕ) (here : Branch) (around : List Branch)
    (p q r : Result (List ℕ) Diag)
    → p >>= (λ b. q >>= (λ c. r >>= (λ d. after_all value xs (state (((a ++ b) ++ c) ++ d) here around))))
    ≡ (p >>= (λ b. q >>= (λ c. r >>= (λ d. Ok (b ++ (c ++ d)))))) >>= (λ ns. after_all value xs (state (a ++ ns) here around))
three_parts value xs a here around (Err e) q r = refl
three_parts value xs a here around (Ok b) (Err e) r = refl
three_parts value xs a here around (Ok b) (Ok c) (Err e) = refl
three_parts value xs a here around (Ok b) (Ok c) (Ok d) =
    two_adds value xs (a ++ b) c d here around ∙ two_adds value xs a b (c ++ d) here around

mutual
  -- lines of a tree, and then others
  pub part_taken : (value : Cond → Option ℤ) (p : Part) (xs : List Line) (a : List ℕ) (live waits last : Bool)
      (around : List Branch)
      → after_all value (lines_of p ++ xs) (state a (branch live waits last) around)
      ≡ chosen value live p >>= (λ ns. after_all value xs (state (a ++ ns) (branch live waits last) around))
  part_taken value Part.end xs a live waits last around = no_adds value xs a (branch live waits last) around
  part_taken value (Part.item at n behind) xs a true waits last around =
      let here = branch true waits last in
      part_taken value behind xs (a ++ n ∷ []) true waits last around
      ∙ then_same (chosen value true behind) _ _ (λ ns. two_adds value xs a (n ∷ []) ns here around)
      ∙ sym (then_then (chosen value true behind) (λ more. Ok (n ∷ more))
      (λ ns. after_all value xs (state (a ++ ns) here around)))
  part_taken value (Part.item at n behind) xs a false waits last around =
      part_taken value behind xs a false waits last around
      ∙ sym (then_then (chosen value false behind) (λ more. Ok more)
      (λ ns. after_all value xs (state (a ++ ns) (branch false waits last) around)))
  part_taken value (Part.error at text behind) xs a true waits last around = refl
  part_taken value (Part.error at text behind) xs a false waits last around =
      part_taken value behind xs a false waits last around
  part_taken value (Part.block at cond part branches behind) xs a live waits last around =
      let here = branch live waits last in
      let inside = λ (first : Bool). branch first (live && not first) false in
      let out = around ++ here ∷ [] in
      let last_lines = lines_of behind ++ xs in
      let lines : (lines_of part ++ (branch_lines branches ++ lines_of behind)) ++ xs
      ≡ lines_of part ++ (branch_lines branches ++ last_lines) =
      append_assoc (lines_of part) (branch_lines branches ++ lines_of behind) xs
      ∙ ap (λ ys. lines_of part ++ ys) (append_assoc (branch_lines branches) (lines_of behind) xs) in
      then_then (is_taken live at (value cond)) _ _
      ∙ then_same (is_taken live at (value cond)) _ _ (λ first.
      ap (λ ys. after_all value ys (state a (inside first) out)) lines
      ∙ part_taken value part (branch_lines branches ++ last_lines) a first (live && not first) false out
      ∙ then_same (chosen value first part) _ _ (λ b.
      branches_taken value branches last_lines (a ++ b) first (live && not first) false here around
      ∙ then_same (branches_chosen value (live && not first) false branches) _ _ (λ c.
      part_taken value behind xs ((a ++ b) ++ c) live waits last around))
      ∙ three_parts value xs a here around (chosen value first part)
      (branches_chosen value (live && not first) false branches) (chosen value live behind))
      ∙ sym (then_then (is_taken live at (value cond)) _ _)

  -- the branches of a block, and then other lines
  pub branches_taken : (value : Cond → Option ℤ) (bs : Branches) (xs : List Line) (a : List ℕ) (live waits last : Bool)
      (outer : Branch) (around : List Branch)
      → after_all value (branch_lines bs ++ xs) (state a (branch live waits last) (around ++ outer ∷ []))
      ≡ branches_chosen value waits last bs >>= (λ ns. after_all value xs (state (a ++ ns) outer around))
  branches_taken value (Branches.endif at) xs a live waits last outer around =
      ap (λ p. closed_by at a p >>= after_all value xs) (popped_end around outer) ∙ no_adds value xs a outer around
  branches_taken value (Branches.elif at cond part bs) xs a live waits true outer around = refl
  branches_taken value (Branches.elif at cond part bs) xs a live waits false outer around =
      let inside = λ (this : Bool). branch this (waits && not this) false in
      let out = around ++ outer ∷ [] in
      then_then (is_taken waits at (value cond)) _ _
      ∙ then_same (is_taken waits at (value cond)) _ _ (λ this.
      ap (λ ys. after_all value ys (state a (inside this) out)) (append_assoc (lines_of part) (branch_lines bs) xs)
      ∙ part_taken value part (branch_lines bs ++ xs) a this (waits && not this) false out
      ∙ then_same (chosen value this part) _ _ (λ b.
      branches_taken value bs xs (a ++ b) this (waits && not this) false outer around)
      ∙ two_parts value xs a outer around (chosen value this part) (branches_chosen value (waits && not this) false bs))
      ∙ sym (then_then (is_taken waits at (value cond)) _ _)
  branches_taken value (Branches.otherwise at part bs) xs a live waits true outer around = refl
  branches_taken value (Branches.otherwise at part bs) xs a live waits false outer around =
      let out = around ++ outer ∷ [] in
      ap (λ ys. after_all value ys (state a (branch waits false true) out)) (append_assoc (lines_of part) (branch_lines bs) xs)
      ∙ part_taken value part (branch_lines bs ++ xs) a waits false true out
      ∙ then_same (chosen value waits part) _ _ (λ b. branches_taken value bs xs (a ++ b) waits false true outer around)
      ∙ two_parts value xs a outer around (chosen value waits part) (branches_chosen value false true bs)
