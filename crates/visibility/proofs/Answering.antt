-- Answers that pass on the refusal of a part.
use Rattle.std.proofs.Common.{◌≡◌, sym, subst, ap, ℕ, List, Result, Ok, Err}
use Rattle.std.specs.Result.{IsErrAnd}
use Rattle.cm_base.specs.Calls.{Gives}
use Rattle.cm_base.specs.Diags.{◌>>=◌}
use Rattle.cm_base.specs.declared.diag.Diag.{Diag}
use Rattle.cm_base.specs.declared.fault.Fault.{Fault}
use Rattle.cm_base.specs.declared.fault.Fault.TheVariants as fault
use Rattle.cm_description.specs.declared.loaded.Export.{Export}
use Rattle.cm_description.specs.declared.loaded.Wanted.{Wanted}
use Rattle.visibility.specs.Naming.{with_imports}
use Rattle.visibility.specs.Tables.{Added, Adds, AddsImports}

err_gives : {A B : Type 0} (e : Fault) (part : Result B Diag) (whole : Result A Diag) → Gives {A = B} (Err e) part
    → ((diag : Diag) → part ≡ Err diag → whole ≡ Err diag) → Gives {A = A} (Err e) whole
err_gives (fault.Diag diag) part whole gives same = same diag gives
err_gives fault.NoMemory part whole gives same = tt

-- a part's refusal is that of the whole
pub passed : {A B : Type 0} (r : Result A Fault) (e : Fault) (part : Result B Diag) (whole : Result A Diag)
    → IsErrAnd r (λ y. y ≡ e) → Gives {A = B} (Err e) part → ((diag : Diag) → part ≡ Err diag → whole ≡ Err diag)
    → Gives r whole
passed (Ok value) e part whole is gives same = absurd is
passed {A} (Err y) e part whole is gives same =
    subst (λ (x : Fault). Gives {A = A} (Err x) whole) (sym is) (err_gives e part whole gives same)

err_adds : {B : Type 0} (e : Fault) (part : Result B Diag) (whole : Result Added Diag) (new : List (List Wanted))
    → Gives {A = B} (Err e) part → ((diag : Diag) → part ≡ Err diag → whole ≡ Err diag) → Adds (Err e) whole new
err_adds (fault.Diag diag) part whole new gives same = same diag gives
err_adds fault.NoMemory part whole new gives same = tt

pub adds_passed : {B : Type 0} (r : Result (List Export) Fault) (e : Fault) (part : Result B Diag)
    (whole : Result Added Diag) (new : List (List Wanted)) → IsErrAnd r (λ y. y ≡ e) → Gives {A = B} (Err e) part
    → ((diag : Diag) → part ≡ Err diag → whole ≡ Err diag) → Adds r whole new
adds_passed (Ok value) e part whole new is gives same = absurd is
adds_passed (Err y) e part whole new is gives same =
    subst (λ (x : Fault). Adds (Err x) whole new) (sym is) (err_adds e part whole new gives same)

-- imports that are refused
pub imports_wrong : (e : Fault) (imports : ℕ → Result (List Wanted) Diag) (units : List ℕ)
    (old new : List (List Wanted)) → AddsImports (Err e) imports units old new
    → Gives {A = List (List Wanted)} (Err e) (with_imports imports units old)
imports_wrong (fault.Diag diag) imports units old new adds = adds
imports_wrong fault.NoMemory imports units old new adds = tt

-- what a group adds that is refused
pub added_wrong : (e : Fault) (defined : Result Added Diag) (new : List (List Wanted)) → Adds (Err e) defined new
    → Gives {A = Added} (Err e) defined
added_wrong (fault.Diag diag) defined new adds = adds
added_wrong fault.NoMemory defined new adds = tt

-- what follows on a refusal, and on an answer
pub bind_wrong : {A B : Type 0} (r : Result A Diag) (k : A → Result B Diag) (diag : Diag) → r ≡ Err diag
    → (r >>= k) ≡ Err diag
bind_wrong {A} r k diag is = ap (λ (x : Result A Diag). x >>= k) is

pub bind_right : {A B : Type 0} (r : Result A Diag) (k : A → Result B Diag) (a : A) → r ≡ Ok a → (r >>= k) ≡ k a
bind_right {A} r k a is = ap (λ (x : Result A Diag). x >>= k) is
