-- A build over a good store reads its binfiles as they stood at entry, and whole interfaces, which no put changes. So
-- beside the files goes a shadow of them: a good store with the same interface files, which has the binfiles of entry.
use Rattle.std.proofs.Common.{◌≡◌, ◌≢◌, ◌∙◌, sym, ap, refl, ℕ, ◌<◌, ◌^◌, Bool, true, false, cond, List, [], ◌∷◌, Option, Some, None, length}
use Rattle.std.specs.Prelude.{is_some, Contains}
use Rattle.std.specs.List.{AllByRecursion}
use Rattle.std.specs.Ordering.{nat_cmp, eq_by_cmp}
use Rattle.std.specs.Cmp.Lexicographic.{slice_cmp, nat_list_cmp_total}
use Rattle.std.specs.FinMap.{get, insert, get-insert}
use Rattle.cm_base.specs.Definitions.{Definitions}
use Rattle.cm_base.specs.Files.{Files}
use Rattle.cm_base.specs.declared.record.BuiltUnit.{BuiltUnit}
use Rattle.cm_base.specs.declared.record.CompileInput.{CompileInput}
use Rattle.cm_base.specs.declared.record.Import.{Import}
use Rattle.cm_base.specs.declared.record.Options.{Options}
use Rattle.cm_base.specs.declared.record.Pid.{Pid}
use Rattle.cm_base.specs.declared.record.PlannedUnit.{PlannedUnit}
use Rattle.cm_base.proofs.FileLemmas.{get-insert_other}
use Rattle.cm_bytes.specs.Hashes.{hash_of, HashesApart}
use Rattle.bin_formats.specs.declared.bin.Bin.{Bin}
use Rattle.bin_formats.specs.Format.{binfile, interface_file}
use Rattle.bin_store.specs.GoodStore.{IsGoodStore}
use Rattle.bin_store.specs.Paths.{bin_path, interface_path}
use Rattle.bin_store.specs.Stored.{bin_found, interface_found, stored_bin, stored_interface, with_interface}
use Rattle.bin_store.proofs.GoodAfter.{good_is_told, interface_stands, store_after_put_interface, store_is_good}
use Rattle.bin_store.proofs.PathLaws.{bin_path-injective, bin_is_no_interface}
use Rattle.build_laws.specs.Inputs.{imports_in}
use Rattle.build_laws.specs.Stale.{by_key, is_fresh, loaded, loaded_for, of_bin, same_key, with_text}
use Rattle.build_laws.specs.Storing.{bin_of_unit, put_unit, with_unit}
use Rattle.build_laws.proofs.Building.{AsAtEntry}
use Rattle.build_laws.proofs.Fresh.{fresh_by_bin, fresh_of}
use Rattle.build_laws.proofs.Putting.{insert_same, put_then_set, puts_interface}

-- ---- files with the same interface files, and with the same binfile of a unit

abbrev SameInterfaces : Files → Files → Type 0
SameInterfaces files other = (h : Pid) → get files (interface_path h) ≡ get other (interface_path h)

abbrev SameBin : Files → Files → List ℕ → Type 0
SameBin files other unit = get files (bin_path unit) ≡ get other (bin_path unit)

interface_same : (files other : Files) → SameInterfaces files other → (h : Pid)
    → stored_interface files h ≡ stored_interface other h
unfolding stored_interface
interface_same files other same h = ap (interface_found h) (same h)

bin_same : (files other : Files) (unit : List ℕ) → SameBin files other unit → stored_bin files unit ≡ stored_bin other unit
unfolding stored_bin
bin_same files other unit same = ap (bin_found unit) same

-- what is loaded of it is the same
pub loaded_same : (files other : Files) (unit : List ℕ) (options : Options) (source : List ℕ) (imports : List Import)
    → SameInterfaces files other → SameBin files other unit
    → loaded files unit options source imports ≡ loaded other unit options source imports
unfolding loaded
loaded_same files other unit options source imports same bin =
    ap (of_bin files options source imports) (bin_same files other unit bin) ∙ by_bin (stored_bin other unit)
  where
    by_test : (b : Bin) (test : Bool) → by_key files b test ≡ by_key other b test
    by_test b false = refl
    by_test b true = ap (with_text b) (interface_same files other same b.interface)

    by_bin : (o : Option Bin) → of_bin files options source imports o ≡ of_bin other options source imports o
    by_bin None = refl
    by_bin (Some b) = by_test b (same_key b options source imports)

-- an interface that is put in both
with_same : (files other : Files) (text : List ℕ) → SameInterfaces files other
    → SameInterfaces (with_interface files text) (with_interface other text)
unfolding with_interface
with_same files other text same = λ h.
    ap (λ o. get (cond (is_some o) files (insert files (interface_path (hash_of text)) (interface_file text))) (interface_path h))
    (interface_same files other same (hash_of text))
    ∙ by_test h (is_some (stored_interface other (hash_of text)))
  where
    by_test : (h : Pid) (b : Bool)
        → get (cond b files (insert files (interface_path (hash_of text)) (interface_file text))) (interface_path h)
        ≡ get (cond b other (insert other (interface_path (hash_of text)) (interface_file text))) (interface_path h)
    by_test h true = same h
    by_test h false =
        get-insert nat_list_cmp_total files (interface_path (hash_of text)) (interface_file text) (interface_path h)
        ∙ ap (λ o. cond (eq_by_cmp (slice_cmp nat_cmp) (interface_path h) (interface_path (hash_of text))) (Some (interface_file text)) o)
        (same h)
        ∙ sym (get-insert nat_list_cmp_total other (interface_path (hash_of text)) (interface_file text) (interface_path h))

-- .. changes no binfile
with_bin : (files : Files) (text unit : List ℕ) → SameBin (with_interface files text) files unit
unfolding with_interface
with_bin files text unit = by_test (is_some (stored_interface files (hash_of text)))
  where
    by_test : (b : Bool)
        → get (cond b files (insert files (interface_path (hash_of text)) (interface_file text))) (bin_path unit)
        ≡ get files (bin_path unit)
    by_test true = refl
    by_test false =
        get-insert_other files (interface_path (hash_of text)) (interface_file text) (bin_path unit)
        (bin_is_no_interface unit (hash_of text))

-- a unit that is put: the interface files are those with its interface, and the binfile of another unit is as it was
put_interfaces : (files : Files) (p : PlannedUnit) (u : BuiltUnit)
    → SameInterfaces (put_unit files p u) (with_interface files u.interface)
unfolding put_unit
put_interfaces files p u = λ h.
    get-insert_other (with_interface files u.interface) (bin_path p.unit) (binfile (bin_of_unit p u)) (interface_path h)
    (λ same. bin_is_no_interface p.unit h (sym same))

put_bin : (files : Files) (p : PlannedUnit) (u : BuiltUnit) (unit : List ℕ) → unit ≢ p.unit
    → SameBin (put_unit files p u) files unit
unfolding put_unit
put_bin files p u unit apart =
    get-insert_other (with_interface files u.interface) (bin_path p.unit) (binfile (bin_of_unit p u)) (bin_path unit)
    (λ same. apart (bin_path-injective unit p.unit same))
    ∙ with_bin files u.interface unit

-- where its interface stands then, it is set
put_is : (files : Files) (p : PlannedUnit) (u : BuiltUnit) → u.hash ≡ hash_of u.interface
    → get (with_interface files u.interface) (interface_path (hash_of u.interface)) ≡ Some (interface_file u.interface)
    → put_unit files p u ≡ with_unit files p u
unfolding put_unit with_unit
put_is files p u hash stands =
    ap (λ (f : Files). insert f (bin_path p.unit) (binfile (bin_of_unit p u)))
    (sym (insert_same (with_interface files u.interface) (interface_path (hash_of u.interface)) (interface_file u.interface)
    stands) ∙ put_then_set files u.interface
    ∙ ap (λ h. insert files (interface_path h) (interface_file u.interface)) (sym hash))

-- ---- a shadow

-- a shadow of the files before these units' turns, in a build that began over a good store
pub record Shadows (by : Definitions) (texts : List (List ℕ)) (start files : Files) (ps : List PlannedUnit) : Type 0 where
  pub shade : Files
  pub good : IsGoodStore by texts shade
  pub interfaces : SameInterfaces files shade
  pub bins : AllByRecursion (λ (p : PlannedUnit). SameBin files shade p.unit) ps
  pub entry : AsAtEntry start shade ps

-- at entry the files are their own shadow
pub entry_shadows : (by : Definitions) (texts : List (List ℕ)) (files : Files) (ps : List PlannedUnit)
    → IsGoodStore by texts files → Shadows by texts files files ps
entry_shadows by texts files ps good = record {
  shade = files;
  good = good;
  interfaces = λ h. refl;
  bins = each ps;
  entry = each ps;
}
  where
    each : (qs : List PlannedUnit) → AllByRecursion (λ (p : PlannedUnit). SameBin files files p.unit) qs
    each [] = tt
    each (q ∷ qs) = (refl, each qs)

-- after a turn that writes nothing
pub later_shadows : (by : Definitions) (texts : List (List ℕ)) (start files : Files) (p : PlannedUnit) (ps : List PlannedUnit)
    → Shadows by texts start files (p ∷ ps) → Shadows by texts start files ps
later_shadows by texts start files p ps is = record {
  shade = is.shade;
  good = is.good;
  interfaces = is.interfaces;
  bins = is.bins.1;
  entry = is.entry.1;
}

module _ (by : Definitions) (texts : List (List ℕ)) (apart : HashesApart texts) (start files : Files) (p : PlannedUnit)
    (ps : List PlannedUnit) (is : Shadows by texts start files (p ∷ ps)) where
  -- what is loaded of the next unit, and whether it is fresh
  pub loads : (input : CompileInput) → input.unit ≡ p.unit → loaded_for files input ≡ loaded_for is.shade input
  loads input name =
      loaded_same files is.shade input.unit input.options input.source (imports_in input.imports) is.interfaces
      (ap (λ u. get files (bin_path u)) name ∙ is.bins.0 ∙ ap (λ u. get is.shade (bin_path u)) (sym name))

  pub fresh_at_entry : IsGoodStore by texts start → (input : CompileInput) → input.unit ≡ p.unit
      → is_fresh start input ≡ is_fresh files input
  fresh_at_entry good input name =
      fresh_by_bin by texts start good apart input.unit input.options input.source (imports_in input.imports)
      ∙ ap (fresh_of input.options input.source (imports_in input.imports)) (bin_same start is.shade input.unit
      (ap (λ u. get start (bin_path u)) name ∙ sym is.entry.0 ∙ ap (λ u. get is.shade (bin_path u)) (sym name)))
      ∙ sym (fresh_by_bin by texts is.shade is.good apart input.unit input.options input.source (imports_in input.imports))
      ∙ ap is_some (sym (loads input name))

  module _ (u : BuiltUnit) (hash : u.hash ≡ hash_of u.interface) (small : length u.interface < 2 ^ 32)
      (known : Contains texts u.interface) where
    -- a unit that is put is set, as the plain build gives it
    pub put_is_set : put_unit files p u ≡ with_unit files p u
    put_is_set =
        put_is files p u hash (with_same files is.shade u.interface is.interfaces (hash_of u.interface)
        ∙ interface_stands is.shade u.interface known apart is.good)

    -- .. and its interface is put in the shadow
    pub put_shadows : AllByRecursion (λ (q : PlannedUnit). q.unit ≢ p.unit) ps
        → Shadows by texts start (put_unit files p u) ps
    put_shadows differ = record {
      shade = with_interface is.shade u.interface;
      good = good_is_told (store_after_put_interface by texts (Some is.shade) (Some (with_interface is.shade u.interface))
          u.interface small known apart (puts_interface is.shade u.interface) (store_is_good refl is.good))
          (with_interface is.shade u.interface) refl;
      interfaces = λ h. put_interfaces files p u h ∙ with_same files is.shade u.interface is.interfaces h;
      bins = bins ps differ is.bins.1;
      entry = entry ps is.entry.1;
    }
      where
        bins : (qs : List PlannedUnit) → AllByRecursion (λ (q : PlannedUnit). q.unit ≢ p.unit) qs
            → AllByRecursion (λ (q : PlannedUnit). SameBin files is.shade q.unit) qs
            → AllByRecursion (λ (q : PlannedUnit). SameBin (put_unit files p u) (with_interface is.shade u.interface) q.unit) qs
        bins [] differ same = tt
        bins (q ∷ qs) differ same = (
          put_bin files p u q.unit differ.0 ∙ same.0 ∙ sym (with_bin is.shade u.interface q.unit),
          bins qs differ.1 same.1,
        )

        entry : (qs : List PlannedUnit) → AsAtEntry start is.shade qs
            → AsAtEntry start (with_interface is.shade u.interface) qs
        entry [] same = tt
        entry (q ∷ qs) same = (with_bin is.shade u.interface q.unit ∙ same.0, entry qs same.1)
