-- From a good store, the build over it is the plain build: each unit comes as it is marked, the stale ones are asked for,
-- and the store is left as the plain build gives it.
use Rattle.std.proofs.Common.{◌≡◌, ◌≢◌, ◌∙◌, sym, ap, ap₂, subst, refl, ℕ, ◌+◌, Bool, true, false, cond, List, [], ◌∷◌, ◌++◌, Option, Some, None, length, map, arith, append-nil}
use Rattle.std.specs.Prelude.{Result, Ok, Err, Contains, nat_eq}
use Rattle.std.specs.List.{AllByRecursion, fold}
use Rattle.std.specs.Option.{option_or}
use Rattle.std.specs.FinMap.{get}
use Rattle.std.proofs.lemmas.List.Elements.{Contains-append_right}
use lib.Pointwise.{pointwise}
use Rattle.cm_base.specs.Definitions.{Definitions}
use Rattle.cm_base.specs.Diags.{whole_file}
use Rattle.cm_base.specs.Files.{Files}
use Rattle.cm_base.specs.declared.diag.Diag.{Diag}
use Rattle.cm_base.specs.declared.record.CompileInput.{CompileInput}
use Rattle.cm_base.specs.declared.record.Compiled.{Compiled}
use Rattle.cm_base.specs.declared.record.Given.{Given}
use Rattle.cm_base.specs.declared.record.BuiltUnit.{BuiltUnit}
use Rattle.cm_base.specs.declared.record.PlannedUnit.{PlannedUnit}
use Rattle.cm_base.specs.declared.record.WantedName.{WantedName}
use Rattle.cm_bytes.specs.Hashes.{HashesApart}
use Rattle.bin_store.specs.GoodStore.{IsGoodStore}
use Rattle.bin_store.specs.Paths.{bin_path}
use Rattle.bin_store.specs.Stored.{bin_found, stored_bin}
use Rattle.build_laws.specs.CutBuild.{Turn, Cut, turn, then_cut, cut_turn, cut_after}
use Rattle.build_laws.specs.Inputs.{done_unit, with_given, givens_of, imports_in, input_of, input_after, interface_bytes, is_too_large}
use Rattle.build_laws.specs.PlainBuild.{PlainUnit, Build, compiled_unit, compiled_units, plain_unit, then_build, build_after}
use Rattle.build_laws.specs.Planned.{interfaces_of, HaveSkeletons, NamesDiffer}
use Rattle.build_laws.specs.Stale.{is_fresh, marked_unit, marked, inputs_of, stale_names, asked_in}
use Rattle.build_laws.specs.Storing.{with_unit, with_units, IsSmallPlanned}
use Rattle.build_laws.proofs.Fresh.{fresh_of, fresh_by_bin}
use Rattle.build_laws.proofs.Made.{IsKnownUnit, givens_known, short_givens}
use Rattle.build_laws.proofs.Putting.{other_bin}
use Rattle.build_laws.proofs.Turning.{IsTurn, turn_is, marked_known}

-- ---- how a unit came doesn't matter to its users

-- a unit as one that was compiled
abbrev pub plain : BuiltUnit → BuiltUnit
plain unit = marked_unit false unit

plain_found : Option BuiltUnit → Option BuiltUnit
plain_found None = None
plain_found (Some b) = Some (plain b)

or_plain : (later : Option BuiltUnit) (b : BuiltUnit) (here : Bool)
    → option_or (plain_found later) (cond here (Some (plain b)) None) ≡ plain_found (option_or later (cond here (Some b) None))
unfolding plain_found
or_plain (Some v) b here = refl
or_plain None b true = refl
or_plain None b false = refl

done_plain : (bs : List BuiltUnit) (name : List ℕ) → done_unit (map plain bs) name ≡ plain_found (done_unit bs name)
unfolding plain_found
done_plain [] name = refl
done_plain (b ∷ bs) name =
    ap (λ o. option_or o (cond (pointwise nat_eq b.unit name) (Some (plain b)) None)) (done_plain bs name)
    ∙ or_plain (done_unit bs name) b (pointwise nat_eq b.unit name)

given_plain : (w : WantedName) (o : Option BuiltUnit) (gs : List Given) → with_given w (plain_found o) gs ≡ with_given w o gs
unfolding plain_found
given_plain w None gs = refl
given_plain w (Some b) gs = refl

givens_plain : (bs : List BuiltUnit) (ws : List WantedName) → givens_of (map plain bs) ws ≡ givens_of bs ws
givens_plain bs [] = refl
givens_plain bs (w ∷ ws) =
    ap₂ (with_given w) (done_plain bs w.provider) (givens_plain bs ws) ∙ given_plain w (done_unit bs w.provider) (givens_of bs ws)

sum_plain : (n : ℕ) (bs : List BuiltUnit)
    → fold (λ (a : ℕ) (u : BuiltUnit). a + length u.interface) n (map plain bs)
    ≡ fold (λ (a : ℕ) (u : BuiltUnit). a + length u.interface) n bs
sum_plain n [] = refl
sum_plain n (b ∷ bs) = sum_plain (n + length b.interface) bs

pub input_plain : (bs : List BuiltUnit) (us : List PlainUnit) (p : PlannedUnit) → map plain bs ≡ compiled_units us
    → input_after (compiled_units us) p ≡ input_after bs p
input_plain bs us p same =
    ap (λ xs. input_after xs p) (sym same) ∙ ap (input_of p) (givens_plain bs p.wanted)

pub bytes_plain : (bs : List BuiltUnit) (us : List PlainUnit) → map plain bs ≡ compiled_units us
    → interface_bytes (compiled_units us) ≡ interface_bytes bs
bytes_plain bs us same = ap interface_bytes (sym same) ∙ sum_plain 0 bs

map_end : {A B : Type 0} (f : A → B) (xs : List A) (x : A) → map f (xs ++ x ∷ []) ≡ map f xs ++ f x ∷ []
map_end f [] x = refl
map_end f (y ∷ xs) x = ap (λ l. f y ∷ l) (map_end f xs x)

plain_marked : (fresh : Bool) (u : PlainUnit) → plain (marked_unit fresh (compiled_unit u)) ≡ compiled_unit u
plain_marked true u = refl
plain_marked false u = refl

pub plain_end : (bs : List BuiltUnit) (us : List PlainUnit) (fresh : Bool) (u : PlainUnit) → map plain bs ≡ compiled_units us
    → map plain (bs ++ marked_unit fresh (compiled_unit u) ∷ []) ≡ compiled_units (us ++ u ∷ [])
plain_end bs us fresh u same =
    map_end plain bs (marked_unit fresh (compiled_unit u)) ∙ ap₂ (λ xs x. xs ++ x ∷ []) same (plain_marked fresh u)
    ∙ sym (map_end compiled_unit us u)

pub all_end : {A : Type 0} (P : A → Type 0) (xs : List A) (x : A) → AllByRecursion P xs → P x → AllByRecursion P (xs ++ x ∷ [])
all_end P [] x all one = (one, tt)
all_end P (y ∷ xs) x all one = (all.0, all_end P xs x all.1 one)

-- ---- fresh at its turn is fresh at entry

-- the binfiles of these units are as at entry
abbrev pub AsAtEntry : Files → Files → List PlannedUnit → Type 0
AsAtEntry start files ps = AllByRecursion (λ (p : PlannedUnit). get files (bin_path p.unit) ≡ get start (bin_path p.unit)) ps

entry_kept : (start files after : Files) (p : PlannedUnit) (u : BuiltUnit) (ps : List PlannedUnit)
    → AllByRecursion (λ (q : PlannedUnit). q.unit ≢ p.unit) ps → after ≡ with_unit files p u
    → AsAtEntry start files ps → AsAtEntry start after ps
entry_kept start files after p u [] differ is entry = tt
entry_kept start files after p u (q ∷ ps) differ is entry = (
  ap (λ (f : Files). get f (bin_path q.unit)) is ∙ other_bin files p u q.unit differ.0 ∙ entry.0,
  entry_kept start files after p u ps differ.1 is entry.1,
)

stored_same : (start files : Files) (unit : List ℕ) → get files (bin_path unit) ≡ get start (bin_path unit)
    → stored_bin files unit ≡ stored_bin start unit
unfolding stored_bin
stored_same start files unit same = ap (bin_found unit) same

fresh_at_entry : (by : Definitions) (texts : List (List ℕ)) (apart : HashesApart texts) (start files : Files) (input : CompileInput)
    → IsGoodStore by texts start → IsGoodStore by texts files
    → get files (bin_path input.unit) ≡ get start (bin_path input.unit) → is_fresh files input ≡ is_fresh start input
fresh_at_entry by texts apart start files input at now same =
    fresh_by_bin by texts files now apart input.unit input.options input.source (imports_in input.imports)
    ∙ ap (fresh_of input.options input.source (imports_in input.imports)) (stored_same start files input.unit same)
    ∙ sym (fresh_by_bin by texts start at apart input.unit input.options input.source (imports_in input.imports))

-- ---- a build

pub record IsPlain (by : Definitions) (texts : List (List ℕ)) (start files : Files) (ps : List PlannedUnit) (b : Build) (c : Cut)
    : Type 0 where
  pub units : c.units ≡ marked start b
  pub ended : c.ended ≡ b.ended
  pub asked : c.asked ≡ asked_in start b
  pub leaves : c.files ≡ with_units files ps (compiled_units b.units)
  pub good : IsGoodStore by texts c.files
  pub known : AllByRecursion (IsKnownUnit texts) c.units
  pub same : map plain c.units ≡ compiled_units b.units

module _ (by : Definitions) (texts : List (List ℕ)) (apart : HashesApart texts) (start : Files) (at : IsGoodStore by texts start) where
  asked_first : (p : PlannedUnit) (fresh : Bool) (input : CompileInput) (more : List CompileInput) → input.unit ≡ p.unit
      → is_fresh start input ≡ fresh
      → cond fresh [] (p.unit ∷ []) ++ stale_names start more ≡ stale_names start (input ∷ more)
  asked_first p true input more name is = sym (ap (λ b. cond b (stale_names start more) (input.unit ∷ stale_names start more)) is)
  asked_first p false input more name is =
      sym (ap (λ b. cond b (stale_names start more) (input.unit ∷ stale_names start more)) is ∙ ap (λ u. u ∷ stale_names start more) name)

  -- a unit that is refused
  refused : (files : Files) (p : PlannedUnit) (ps : List PlannedUnit) (input : CompileInput) (fresh : Bool) (d : Diag) (t : Turn)
      (rest : PlainUnit → Build) (more : Files → BuiltUnit → Cut) → input.unit ≡ p.unit → is_fresh start input ≡ fresh
      → IsTurn by texts files p input fresh (Err d) t
      → IsPlain by texts start files (p ∷ ps) (then_build input (Err d) rest) (cut_turn t more)
  refused files p ps input fresh d t rest more name is turns =
      subst (λ g. IsPlain by texts start files (p ∷ ps) (then_build input (Err d) rest) (then_cut g t.asked t.files (more t.files)))
      (sym turns.gives.0)
      (record {
        units = refl;
        ended = refl;
        asked = turns.asked ∙ sym (append-nil (cond fresh [] (p.unit ∷ []))) ∙ asked_first p fresh input [] name is;
        leaves = turns.gives.1;
        good = turns.good;
        known = tt;
        same = refl;
      })

  -- a unit that is done, and the rest
  done : (files : Files) (p : PlannedUnit) (ps : List PlannedUnit) (input : CompileInput) (fresh : Bool) (u : PlainUnit) (t : Turn)
      (rest : PlainUnit → Build) (more : Files → BuiltUnit → Cut) → input.unit ≡ p.unit → is_fresh start input ≡ fresh
      → IsTurn by texts files p input fresh (Ok u) t
      → IsPlain by texts start t.files ps (rest u) (more t.files (marked_unit fresh (compiled_unit u)))
      → IsPlain by texts start files (p ∷ ps) (then_build input (Ok u) rest) (cut_turn t more)
  done files p ps input fresh u t rest more name is turns next =
      subst (λ g. IsPlain by texts start files (p ∷ ps) (then_build input (Ok u) rest) (then_cut g t.asked t.files (more t.files)))
      (sym turns.gives.0)
      (record {
        units = ap₂ (λ b xs. marked_unit b (compiled_unit u) ∷ xs) (sym here) next.units;
        ended = next.ended;
        asked = ap₂ (λ xs ys. xs ++ ys) turns.asked next.asked
            ∙ asked_first p fresh u.input (inputs_of (rest u)) (ap (λ (i : CompileInput). i.unit) turns.gives.2 ∙ name) here;
        leaves = next.leaves ∙ ap (λ (f : Files). with_units f ps (compiled_units (rest u).units)) turns.gives.1;
        good = next.good;
        known = (marked_known texts fresh u turns.gives.3, next.known);
        same = ap₂ (λ x xs. x ∷ xs) (plain_marked fresh u) next.same;
      })
    where
      here : is_fresh start u.input ≡ fresh
      here = ap (is_fresh start) turns.gives.2 ∙ is

  step : (files : Files) (p : PlannedUnit) (ps : List PlannedUnit) (input : CompileInput) (fresh : Bool) (r : Result PlainUnit Diag)
      (t : Turn) (rest : PlainUnit → Build) (more : Files → BuiltUnit → Cut) → input.unit ≡ p.unit → is_fresh start input ≡ fresh
      → IsTurn by texts files p input fresh r t
      → ((u : PlainUnit) → r ≡ Ok u → t.files ≡ with_unit files p (compiled_unit u) → Contains texts u.made.interface
      → IsPlain by texts start t.files ps (rest u) (more t.files (marked_unit fresh (compiled_unit u))))
      → IsPlain by texts start files (p ∷ ps) (then_build input r rest) (cut_turn t more)
  step files p ps input fresh (Err d) t rest more name is turns then = refused files p ps input fresh d t rest more name is turns
  step files p ps input fresh (Ok u) t rest more name is turns then =
      done files p ps input fresh u t rest more name is turns (then u refl turns.gives.1 turns.gives.3)

  -- the plain build of some units, with what the first of them is given and counts
  abbrev built : List PlainUnit → PlannedUnit → List PlannedUnit → ℕ → CompileInput → Build
  built us p ps n input =
      then_build input (plain_unit n input (by.compiled input)) (λ u. build_after by.compiled (us ++ u ∷ []) ps)

  abbrev Inside : Build → Type 0
  Inside b = (t : List ℕ) → Contains (interfaces_of b.units) t → Contains texts t

  first_inside : (input : CompileInput) (r : Result PlainUnit Diag) (rest : PlainUnit → Build) (u : PlainUnit) → r ≡ Ok u
      → Inside (then_build input r rest) → Contains texts u.made.interface
  first_inside input r rest u is inside =
      subst (λ x. Inside (then_build input x rest)) is inside u.made.interface (0, omega arith, refl)

  rest_inside : (input : CompileInput) (r : Result PlainUnit Diag) (rest : PlainUnit → Build) (u : PlainUnit) → r ≡ Ok u
      → Inside (then_build input r rest) → Inside (rest u)
  rest_inside input r rest u is inside = λ t h.
      subst (λ x. Inside (then_build input x rest)) is inside t
      (Contains-append_right (u.made.interface ∷ []) (interfaces_of (rest u).units) t h)

  -- what is shown of the rest of a build
  abbrev CutIs : List PlannedUnit → Type 0
  CutIs ps = (files : Files) (bs : List BuiltUnit) (us : List PlainUnit)
      → map plain bs ≡ compiled_units us → IsGoodStore by texts files → AsAtEntry start files ps → NamesDiffer ps
      → HaveSkeletons by.skel ps → AllByRecursion IsSmallPlanned ps → AllByRecursion (IsKnownUnit texts) bs
      → Inside (build_after by.compiled us ps)
      → IsPlain by texts start files ps (build_after by.compiled us ps) (cut_after by.compiled files bs ps)

  pub cut_is_plain : (ps : List PlannedUnit) (files : Files) (bs : List BuiltUnit) (us : List PlainUnit)
      → map plain bs ≡ compiled_units us → IsGoodStore by texts files → AsAtEntry start files ps → NamesDiffer ps
      → HaveSkeletons by.skel ps → AllByRecursion IsSmallPlanned ps → AllByRecursion (IsKnownUnit texts) bs
      → Inside (build_after by.compiled us ps)
      → IsPlain by texts start files ps (build_after by.compiled us ps) (cut_after by.compiled files bs ps)
  cut_is_plain [] files bs us same good entry differ skeletons small known inside = record {
    units = refl;
    ended = refl;
    asked = refl;
    leaves = refl;
    good = good;
    known = tt;
    same = refl;
  }
  cut_is_plain (p ∷ ps) files bs us same good entry differ skeletons small known inside =
      subst (λ b. IsPlain by texts start files (p ∷ ps) b (cut_after by.compiled files bs (p ∷ ps))) (sym whole)
      (step files p ps input (is_fresh files input) (plain_unit n input (by.compiled input)) (turn by.compiled files bs p)
      (λ u. build_after by.compiled (us ++ u ∷ []) ps) (λ after b. cut_after by.compiled after (bs ++ b ∷ []) ps)
      refl (sym (fresh_at_entry by texts apart start files input at good entry.0)) turns
      (next (λ f b u e g a n k m w i. cut_is_plain ps f b u e g a n k m w i)))
    where
      n : ℕ
      n = interface_bytes bs

      input : CompileInput
      input = input_after bs p

      whole : build_after by.compiled us (p ∷ ps) ≡ built us p ps n input
      whole = ap₂ (built us p ps) (bytes_plain bs us same) (input_plain bs us p same)

      here : Inside (built us p ps n input)
      here = subst Inside whole inside

      within : (made : Compiled) → by.compiled input ≡ Ok made → is_too_large n made ≡ false → Contains texts made.interface
      within made is size =
          first_inside input (plain_unit n input (by.compiled input)) (λ u. build_after by.compiled (us ++ u ∷ []) ps)
          (record { input = input; made = made })
          (ap (plain_unit n input) is ∙ ap (λ b. cond b (Err (whole_file 12 input.unit)) (Ok (record { input = input; made = made }))) size) here

      turns : IsTurn by texts files p input (is_fresh files input) (plain_unit n input (by.compiled input)) (turn by.compiled files bs p)
      turns = turn_is by texts apart files good n p skeletons.0 small.0 (givens_of bs p.wanted)
          (givens_known texts bs p.wanted known) (short_givens bs p.wanted small.0.each_wanted) within

      next : CutIs ps → (u : PlainUnit) → plain_unit n input (by.compiled input) ≡ Ok u
          → (turn by.compiled files bs p).files ≡ with_unit files p (compiled_unit u) → Contains texts u.made.interface
          → IsPlain by texts start (turn by.compiled files bs p).files ps (build_after by.compiled (us ++ u ∷ []) ps)
          (cut_after by.compiled (turn by.compiled files bs p).files (bs ++ marked_unit (is_fresh files input) (compiled_unit u) ∷ []) ps)
      next then u is left there =
          then (turn by.compiled files bs p).files (bs ++ marked_unit (is_fresh files input) (compiled_unit u) ∷ []) (us ++ u ∷ [])
          (plain_end bs us (is_fresh files input) u same) turns.good
          (entry_kept start files (turn by.compiled files bs p).files p (compiled_unit u) ps differ.0 left entry.1)
          differ.1 skeletons.1 small.1
          (all_end (IsKnownUnit texts) bs (marked_unit (is_fresh files input) (compiled_unit u)) known
          (marked_known texts (is_fresh files input) u there))
          (rest_inside input (plain_unit n input (by.compiled input)) (λ v. build_after by.compiled (us ++ v ∷ []) ps) u is here)
