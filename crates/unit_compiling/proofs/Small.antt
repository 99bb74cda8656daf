-- What is compiled is within its limits.
use Rattle.std.proofs.Common.{◌≡◌, ℕ, refl, subst, List, length, Bool, true, false, ◌||◌}
use Rattle.std.specs.Prelude.{Result, Ok, Err, nat_lt, if◌then◌else◌}
use Rattle.std.proofs.lemmas.Bool.{or_parts, ltb-false}
use Rattle.cm_base.specs.Diags.{whole_file, ◌>>=◌}
use Rattle.cm_base.specs.declared.diag.Diag.{Diag}
use Rattle.cm_base.specs.declared.record.Compiled.{Compiled}
use Rattle.sml_syntax.specs.Code.{code_of}
use Rattle.imported_interfaces.specs.Imported.{imported}
use Rattle.unit_compiling.specs.Compiled.{bare_of_source, defined_by, interface_of, within_limits, compiled_top, compiled_seeing, compiled_bare}
use Rattle.unit_compiling.specs.Promises.{IsSmall, CompiledUnitsAreSmall}

-- where two steps give something, the first one does
given : {A B P : Type 0} (first : Result A Diag) (next : A → Result B Diag) (b : B) → (first >>= next) ≡ Ok b
    → ((a : A) → next a ≡ Ok b → P) → P
given (Ok a) next b e f = f a e
given (Err diag) next b e f = absurd (cc)

ok_is : {A : Type 0} (x y : A) → (let r : Result A Diag = Ok x in r) ≡ Ok y → x ≡ y
ok_is x y e = cc

small_within : (unit interface code : List ℕ) (compiled : Compiled) → within_limits unit interface code ≡ Ok compiled
    → IsSmall compiled
small_within unit interface code compiled e =
    by_test (nat_lt 1048576 (length interface) || nat_lt 8388608 (length code)) refl e
  where
    made : Compiled
    made = record { interface = interface; code = code }

    by_test : (b : Bool) → (nat_lt 1048576 (length interface) || nat_lt 8388608 (length code)) ≡ b
        → (if b then Err (whole_file 12 unit) else Ok made) ≡ Ok compiled → IsSmall compiled
    by_test true h k = absurd (cc)
    by_test false h k =
        let parts = or_parts (nat_lt 1048576 (length interface)) (nat_lt 8388608 (length code)) h in
        subst IsSmall (ok_is made compiled k) (record {
          interface = ltb-false 1048576 (length interface) parts.0;
          code = ltb-false 8388608 (length code) parts.1;
        })

pub are_small : CompiledUnitsAreSmall
are_small = record {
  all = λ input compiled e.
      given (bare_of_source input.unit input.source) (compiled_bare input) compiled e
      (λ bare k. given (imported input.unit input.imports) (compiled_seeing input bare) compiled k
      (λ made l. given (defined_by input.unit input.options made.top bare) (compiled_top input.unit bare) compiled l
      (λ top m. small_within input.unit (interface_of input.unit top) (code_of bare) compiled m)));
}
