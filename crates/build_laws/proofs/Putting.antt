-- Storing a unit: what a put leaves, and what is as it was.
use Rattle.std.proofs.Common.{◌≡◌, ◌≢◌, ◌∙◌, sym, ap, subst, refl, inl, inr, ℕ, Bool, true, false, cond, List, Option, Some, None}
use Rattle.std.specs.Prelude.{is_some}
use Rattle.std.specs.Ordering.{nat_cmp, eq_by_cmp}
use Rattle.std.specs.Cmp.Lexicographic.{slice_cmp, nat_list_cmp_total}
use Rattle.std.specs.FinMap.{insert, get, get-insert, same_map, slice_cmp-IsAntisymmetric, nat_cmp-IsAntisymmetric}
use Rattle.cm_base.specs.Files.{Files}
use Rattle.cm_base.specs.declared.record.BuiltUnit.{BuiltUnit}
use Rattle.cm_base.specs.declared.record.PlannedUnit.{PlannedUnit}
use Rattle.cm_base.proofs.FileLemmas.{same_path, get-insert_same, get-insert_other}
use Rattle.cm_base.proofs.KeepingLemmas.{touches_written}
use Rattle.cm_bytes.specs.Hashes.{hash_of}
use Rattle.bin_formats.specs.Format.{IsBin, binfile, interface_file}
use Rattle.bin_store.specs.Paths.{bin_path, interface_path}
use Rattle.bin_store.specs.Stored.{stored_interface, with_interface, PutsInterface}
use Rattle.bin_store.proofs.PathLaws.{bin_path-injective, bin_is_no_interface}
use Rattle.build_laws.specs.Storing.{bin_of_unit, put_unit, with_unit, StoresUnit}

-- what is set to the bytes that it has is as it was
pub insert_same : (files : Files) (path bytes : List ℕ) → get files path ≡ Some bytes → insert files path bytes ≡ files
insert_same files path bytes there =
    same_map nat_list_cmp_total (slice_cmp-IsAntisymmetric nat_cmp-IsAntisymmetric) (insert files path bytes) files at
  where
    by_path : (q : List ℕ) (b : Bool) → eq_by_cmp (slice_cmp nat_cmp) q path ≡ b → cond b (Some bytes) (get files q) ≡ get files q
    by_path q true is = sym there ∙ ap (get files) (sym (same_path q path is))
    by_path q false is = refl

    at : (q : List ℕ) → get (insert files path bytes) q ≡ get files q
    at q = get-insert nat_list_cmp_total files path bytes q ∙ by_path q (eq_by_cmp (slice_cmp nat_cmp) q path) refl

-- an interface is put where none stands whole under its hash, and else nothing is
pub puts_interface : (files : Files) (text : List ℕ) → PutsInterface (Some files) (Some (with_interface files text)) text
unfolding with_interface
puts_interface files text = by_stored (stored_interface files (hash_of text)) refl
  where
    by_stored : (stored : Option (List ℕ)) → stored_interface files (hash_of text) ≡ stored
        → PutsInterface (Some files)
        (Some (cond (is_some stored) files (insert files (interface_path (hash_of text)) (interface_file text)))) text
    by_stored (Some there) is = record { leaves = inl refl }
    by_stored None is = record {
      leaves = inr (
        λ other told. let same : files ≡ other = cc in subst (λ (f : Files). stored_interface f (hash_of text) ≡ None) same is,
        touches_written (Some files) (Some (insert files (interface_path (hash_of text)) (interface_file text)))
            (interface_path (hash_of text)) (interface_file text) refl,
      );
    }

-- a unit that was put is stored
pub stores_put : (files : Files) (p : PlannedUnit) (u : BuiltUnit) → IsBin (bin_of_unit p u)
    → StoresUnit (Some files) (Some (put_unit files p u)) p u
unfolding put_unit
stores_put files p u fits = record {
  between = Some (with_interface files u.interface);
  interface = puts_interface files u.interface;
  bin = inr (
    refl,
    record {
      leaves = inr (
        fits,
        touches_written (Some (with_interface files u.interface))
            (Some (insert (with_interface files u.interface) (bin_path p.unit) (binfile (bin_of_unit p u))))
            (bin_path p.unit) (binfile (bin_of_unit p u)) refl,
      );
    },
  );
}

-- an interface that is put and then set is set
pub put_then_set : (files : Files) (text : List ℕ)
    → insert (with_interface files text) (interface_path (hash_of text)) (interface_file text)
    ≡ insert files (interface_path (hash_of text)) (interface_file text)
unfolding with_interface
put_then_set files text = by_stored (is_some (stored_interface files (hash_of text)))
  where
    by_stored : (b : Bool) → insert (cond b files (insert files (interface_path (hash_of text)) (interface_file text)))
        (interface_path (hash_of text)) (interface_file text)
        ≡ insert files (interface_path (hash_of text)) (interface_file text)
    by_stored true = refl
    by_stored false = insert_same (insert files (interface_path (hash_of text)) (interface_file text))
        (interface_path (hash_of text)) (interface_file text)
        (get-insert_same files (interface_path (hash_of text)) (interface_file text))

-- a unit whose two files stand as they are to be changes nothing
pub stands_already : (files : Files) (p : PlannedUnit) (u : BuiltUnit)
    → get files (interface_path u.hash) ≡ Some (interface_file u.interface)
    → get files (bin_path p.unit) ≡ Some (binfile (bin_of_unit p u)) → with_unit files p u ≡ files
unfolding with_unit
stands_already files p u interface bin =
    ap (λ (f : Files). insert f (bin_path p.unit) (binfile (bin_of_unit p u)))
    (insert_same files (interface_path u.hash) (interface_file u.interface) interface)
    ∙ insert_same files (bin_path p.unit) (binfile (bin_of_unit p u)) bin

-- the binfile of a unit of another name stays
pub other_bin : (files : Files) (p : PlannedUnit) (u : BuiltUnit) (name : List ℕ) → name ≢ p.unit
    → get (with_unit files p u) (bin_path name) ≡ get files (bin_path name)
unfolding with_unit
other_bin files p u name apart =
    get-insert_other (insert files (interface_path u.hash) (interface_file u.interface)) (bin_path p.unit)
    (binfile (bin_of_unit p u)) (bin_path name) (λ same. apart (bin_path-injective name p.unit same))
    ∙ get-insert_other files (interface_path u.hash) (interface_file u.interface) (bin_path name)
    (λ same. bin_is_no_interface name u.hash same)
