-- A build goes on from its front: the plain build, and the build over a store.
use Rattle.std.proofs.Common.{◌≡◌, ◌∙◌, sym, ap, refl, ℕ, List, [], ◌∷◌, ◌++◌, Option, Some, None, append_assoc, append-nil}
use Rattle.std.specs.Prelude.{Result, Ok, Err}
use Rattle.cm_base.specs.Files.{Files}
use Rattle.cm_base.specs.Fronts.{GrowsUpTo}
use Rattle.cm_base.specs.declared.diag.Diag.{Diag}
use Rattle.cm_base.specs.declared.record.CompileInput.{CompileInput}
use Rattle.cm_base.specs.declared.record.Compiled.{Compiled}
use Rattle.cm_base.specs.declared.record.BuiltUnit.{BuiltUnit}
use Rattle.cm_base.specs.declared.record.PlannedUnit.{PlannedUnit}
use Rattle.cm_base.proofs.FrontLemmas.{grows_more, grows_after}
use Rattle.build_laws.specs.CutBuild.{Cut, turn, then_cut, cut_after, cut_build}
use Rattle.build_laws.specs.Inputs.{input_after}
use Rattle.build_laws.specs.Left.{CutSoFar}
use Rattle.build_laws.specs.PlainBuild.{PlainUnit, Build, compiled_units, unit_after, then_build, build_after, plain_build}

-- ---- the plain build

abbrev pub after_units : List PlainUnit → Build → Build
after_units units rest = record { units = units ++ rest.units; ended = rest.ended; at_fault = rest.at_fault }

abbrev plain_ends : Build → Option Diag → (List PlainUnit → Build) → Build
plain_ends b None rest = after_units b.units (rest b.units)
plain_ends b (Some diag) rest = b

-- a build, and then the rest, where it ended without a diagnostic
abbrev pub plain_on : Build → (List PlainUnit → Build) → Build
plain_on b rest = plain_ends b b.ended rest

pub units_on : (b : Build) (rest : List PlainUnit → Build) → b.ended ≡ None
    → (plain_on b rest).units ≡ b.units ++ (rest b.units).units
units_on b rest is = ap (λ o. (plain_ends b o rest).units) is

module _ (compiled : CompileInput → Result Compiled Diag) where
  plain_cons : (input : CompileInput) (us : List PlainUnit) (u : PlainUnit) (b : Build) (o : Option Diag) → b.ended ≡ o
      → (rest : List PlannedUnit)
      → then_build input (Ok u) (λ v. plain_ends b o (λ vs. build_after compiled ((us ++ u ∷ []) ++ vs) rest))
      ≡ plain_ends (then_build input (Ok u) (λ v. b)) o (λ vs. build_after compiled (us ++ vs) rest)
  plain_cons input us u b (Some diag) is rest = refl
  plain_cons input us u b None is rest =
      ap (λ xs. after_units (u ∷ b.units) (build_after compiled xs rest)) (append_assoc us (u ∷ []) b.units)

  plain_then : (input : CompileInput) (us : List PlainUnit) (r : Result PlainUnit Diag) (short long : PlainUnit → Build)
      (rest : List PlannedUnit)
      → ((u : PlainUnit) → long u ≡ plain_on (short u) (λ vs. build_after compiled ((us ++ u ∷ []) ++ vs) rest))
      → then_build input r long ≡ plain_on (then_build input r short) (λ vs. build_after compiled (us ++ vs) rest)
  plain_then input us (Err diag) short long rest more = refl
  plain_then input us (Ok u) short long rest more =
      ap (λ b. then_build input (Ok u) (λ v. b)) (more u) ∙ plain_cons input us u (short u) (short u).ended refl rest

  pub plain_append : (front rest : List PlannedUnit) (us : List PlainUnit)
      → build_after compiled us (front ++ rest)
      ≡ plain_on (build_after compiled us front) (λ vs. build_after compiled (us ++ vs) rest)
  plain_append [] rest us = ap (λ xs. build_after compiled xs rest) (sym (append-nil us))
  plain_append (p ∷ front) rest us =
      plain_then (input_after (compiled_units us) p) us (unit_after compiled (compiled_units us) p)
      (λ u. build_after compiled (us ++ u ∷ []) front) (λ u. build_after compiled (us ++ u ∷ []) (front ++ rest)) rest
      (λ u. plain_append front rest (us ++ u ∷ []))

  ends_within : (b : Build) (o : Option Diag) (rest : List PlainUnit → Build)
      → (more : List PlainUnit) × ((plain_ends b o rest).units ≡ b.units ++ more)
  ends_within b None rest = ((rest b.units).units, refl)
  ends_within b (Some diag) rest = ([], sym (append-nil b.units))

  -- the units of a front are a front of the units
  pub plain_front : (front rest : List PlannedUnit)
      → (more : List PlainUnit) × ((plain_build compiled (front ++ rest)).units ≡ (plain_build compiled front).units ++ more)
  plain_front front rest =
      let b = plain_build compiled front in
      let more = ends_within b b.ended (λ vs. build_after compiled vs rest) in
      (more.0, ap (λ (c : Build). c.units) (plain_append front rest []) ∙ more.1)

-- ---- the build over a store

abbrev pub made_cut : List BuiltUnit → Option Diag → List (List ℕ) → Files → Cut
made_cut units ended asked files = record { units = units; ended = ended; asked = asked; files = files }

-- what comes before a build
abbrev pub after_front : List BuiltUnit → List (List ℕ) → Cut → Cut
after_front units asked rest = made_cut (units ++ rest.units) rest.ended (asked ++ rest.asked) rest.files

abbrev cut_ends_in : Cut → Option Diag → (Files → List BuiltUnit → Cut) → Cut
cut_ends_in c None rest = after_front c.units c.asked (rest c.files c.units)
cut_ends_in c (Some diag) rest = c

-- a build, and then the rest, where it ended without a diagnostic
abbrev pub cut_on : Cut → (Files → List BuiltUnit → Cut) → Cut
cut_on c rest = cut_ends_in c c.ended rest

module _ (compiled : CompileInput → Result Compiled Diag) where
  cut_cons : (asked : List (List ℕ)) (bs : List BuiltUnit) (u : BuiltUnit) (c : Cut) (o : Option Diag) → c.ended ≡ o
      → (after : Files) (rest : List PlannedUnit)
      → then_cut (Ok u) asked after (λ v. cut_ends_in c o (λ f vs. cut_after compiled f ((bs ++ u ∷ []) ++ vs) rest))
      ≡ cut_ends_in (then_cut (Ok u) asked after (λ v. c)) o (λ f vs. cut_after compiled f (bs ++ vs) rest)
  cut_cons asked bs u c (Some diag) is after rest = refl
  cut_cons asked bs u c None is after rest =
      let tail = λ (xs : List BuiltUnit). cut_after compiled c.files xs rest in
      ap (λ xs. made_cut (u ∷ (c.units ++ (tail xs).units)) (tail xs).ended (asked ++ (c.asked ++ (tail xs).asked)) (tail xs).files)
      (append_assoc bs (u ∷ []) c.units)
      ∙ ap (λ l. made_cut (u ∷ (c.units ++ (tail (bs ++ u ∷ c.units)).units)) (tail (bs ++ u ∷ c.units)).ended l
      (tail (bs ++ u ∷ c.units)).files) (sym (append_assoc asked c.asked (tail (bs ++ u ∷ c.units)).asked))

  cut_then : (g : Result BuiltUnit Diag) (asked : List (List ℕ)) (after : Files) (bs : List BuiltUnit) (short long : BuiltUnit → Cut)
      (rest : List PlannedUnit)
      → ((u : BuiltUnit) → long u ≡ cut_on (short u) (λ f vs. cut_after compiled f ((bs ++ u ∷ []) ++ vs) rest))
      → then_cut g asked after long ≡ cut_on (then_cut g asked after short) (λ f vs. cut_after compiled f (bs ++ vs) rest)
  cut_then (Err diag) asked after bs short long rest more = refl
  cut_then (Ok u) asked after bs short long rest more =
      ap (λ c. then_cut (Ok u) asked after (λ v. c)) (more u) ∙ cut_cons asked bs u (short u) (short u).ended refl after rest

  pub cut_append : (front rest : List PlannedUnit) (files : Files) (bs : List BuiltUnit)
      → cut_after compiled files bs (front ++ rest)
      ≡ cut_on (cut_after compiled files bs front) (λ f vs. cut_after compiled f (bs ++ vs) rest)
  cut_append [] rest files bs = ap (λ xs. cut_after compiled files xs rest) (sym (append-nil bs))
  cut_append (p ∷ front) rest files bs =
      let t = turn compiled files bs p in
      cut_then t.gives t.asked t.files bs (λ u. cut_after compiled t.files (bs ++ u ∷ []) front)
      (λ u. cut_after compiled t.files (bs ++ u ∷ []) (front ++ rest)) rest
      (λ u. cut_append front rest t.files (bs ++ u ∷ []))

  module _ (files : Files) (front : List PlannedUnit) (ds : List BuiltUnit) (asked : List (List ℕ)) (here : Files)
      (so_far : CutSoFar compiled files front ds asked here) where
    -- the build from its front
    pub cut_whole : (rest : List PlannedUnit)
        → cut_build compiled files (front ++ rest) ≡ after_front ds asked (cut_after compiled here ds rest)
    cut_whole rest =
        cut_append front rest files [] ∙ ap (λ c. cut_on c (λ f vs. cut_after compiled f vs rest)) so_far.is

    -- some units more
    pub cut_more : (next : List PlannedUnit) → (cut_after compiled here ds next).ended ≡ None
        → CutSoFar compiled files (front ++ next) (ds ++ (cut_after compiled here ds next).units)
        (asked ++ (cut_after compiled here ds next).asked) (cut_after compiled here ds next).files
    cut_more next ended =
        let c = cut_after compiled here ds next in
        record { is = cut_whole next ∙ ap (λ o. made_cut (ds ++ c.units) o (asked ++ c.asked) c.files) ended }

    -- units of which one is refused end it
    pub cut_refused : (next later : List PlannedUnit) (d : Diag) → (cut_after compiled here ds next).ended ≡ Some d
        → cut_build compiled files (front ++ (next ++ later)) ≡ after_front ds asked (cut_after compiled here ds next)
    cut_refused next later d ended =
        let c = cut_after compiled here ds next in
        cut_whole (next ++ later)
        ∙ ap (after_front ds asked) (cut_append next later here ds
        ∙ ap (λ o. cut_ends_in c o (λ f vs. cut_after compiled f (ds ++ vs) later)) ended)

    ends_asks : (c : Cut) (o : Option Diag) (rest : Files → List BuiltUnit → Cut)
        → (more : List (List ℕ)) × (c.asked ++ more ≡ (cut_ends_in c o rest).asked)
    ends_asks c None rest = ((rest c.files c.units).asked, refl)
    ends_asks c (Some d) rest = ([], append-nil c.asked)

    -- what was asked when it was cut off is a front of what it asks
    pub cut_asks : (next later : List PlannedUnit) (start before now : List (List ℕ)) → before ≡ start ++ asked
        → GrowsUpTo before now (cut_after compiled here ds next).asked
        → GrowsUpTo start now (cut_build compiled files (front ++ (next ++ later))).asked
    cut_asks next later start before now grew grows =
        let c = cut_after compiled here ds next in
        let rest = cut_after compiled here ds (next ++ later) in
        let more = ends_asks c c.ended (λ f vs. cut_after compiled f (ds ++ vs) later) in
        grows_after start before now asked rest.asked (cut_build compiled files (front ++ (next ++ later))).asked
        (sym (ap (λ (k : Cut). k.asked) (cut_whole (next ++ later)))) grew
        (grows_more before now c.asked more.0 rest.asked
        (more.1 ∙ sym (ap (λ (k : Cut). k.asked) (cut_append next later here ds))) grows)

  -- no unit yet
  pub cut_start : (files : Files) → CutSoFar compiled files [] [] [] files
  cut_start files = record { is = refl }
