-- What binding, leaving and looking up make of the environment in scope.
use Rattle.std.proofs.Common.{◌≡◌, ℕ, ◌+◌, ◌<◌, ◌≤◌, get_or, refl, sym, ap, ◌∙◌, subst, List, [], ◌∷◌, ◌++◌, Option, Some, None, length, take, drop, append-nil, append_assoc, arith, zero, suc, Bool, true, false, cond}
use Rattle.std.specs.Prelude.{reverse, min}
use Rattle.std.specs.Option.{option_map}
use Rattle.std.proofs.lemmas.List.{reverse-append, reverse-reverse, take-append-drop, take-append-le, take-take, length-take, map-append}
use Rattle.std.proofs.Math.Seq.{take-append_seam, take-length, take-suc}
use Rattle.std.proofs.Math.Nat.{min-le_right, min-eq_left}
use Rattle.semantic_objects.specs.declared.name.TyId.{TyId}
use Rattle.semantic_objects.specs.declared.entry.TypeStr.{TypeStr}
use Rattle.semantic_objects.specs.declared.entry.ValueEntry.{ValueEntry}
use Rattle.semantic_objects.specs.Tables.{Table, IsTable, entry, with_entry, with_all}
use Rattle.semantic_objects.specs.Environments.{Env, table_of, structures_of, env_of, structures, types, values, with_structure, with_type, with_value, modified_by}
use Rattle.semantic_objects.proofs.Promised.{keeps_structures}
use Rattle.sml_modules.specs.declared.id.EnvId.{EnvId}
use Rattle.sml_modules.specs.declared.parts.NamedEnv.{NamedEnv}
use Rattle.sml_modules.specs.declared.parts.NamedType.{NamedType}
use Rattle.sml_modules.specs.Items.{map_rows}
use Rattle.sml_modules.specs.Graphs.{Graph, env_at, HasEnv, HasEnvs, FindsEnv, Keeps, structure_rows, type_rows}
use Rattle.name_trails.specs.Trails.{Rows, same, entry_after, last_entry}
use Rattle.core_scopes.specs.declared.value.ValueInScope.{ValueInScope}
use Rattle.core_scopes.specs.declared.value.ValueInScope.TheVariants as value
use Rattle.core_scopes.specs.declared.value.BoundValue.{BoundValue}
use Rattle.core_scopes.specs.declared.value.NamedBound.{NamedBound}
use Rattle.core_scopes.specs.declared.made.Made.{Made}
use Rattle.core_scopes.specs.declared.made.MadeBound.{MadeBound}
use Rattle.core_scopes.specs.declared.made.NamedInScope.{NamedInScope}
use Rattle.core_scopes.specs.declared.written.InScope.{InScope}
use Rattle.core_scopes.specs.Scopes.{Bindings, entry_of, value_of, bare, bound_entry, AreHeld, IsBare, AreBare, first_entry, written_rows, structures_seen, types_seen, values_seen, seen, written_of, AreEnvs, IsScopeOf}
use Rattle.core_scopes.specs.Marks.{IsFrontOf, Becomes, value_rows, env_of_made, env_of_bound, AddsBare, AddsBound, IsMadeSince}
use Rattle.core_scopes.specs.Opened.{Opens}
use Rattle.core_scopes.specs.Listed.{env_rows, scope_rows, bound_rows, more_made}
use Rattle.core_scopes.specs.Promises.{StaysInScope, FrontsGoOn}
use Rattle.core_scopes.proofs.Tables.{or_held, entry_or, entry_over, entry_under, all_append, all_at_once}

some_is : {A : Type 0} (x y : A) → Some x ≡ Some y → x ≡ y
some_is x y h = cc

taken_within : {A : Type 0} (first next : List A) → take (length first) next ≡ first → length first ≤ length next
taken_within first next h = subst (λ n. n ≤ length next) (sym (length-take (length first) next) ∙ ap length h)
    (min-le_right (length first) (length next))

-- ---- rows

pub map_append : {A B : Type 0} (f : A → B) (front back : Rows A)
    → map_rows f (front ++ back) ≡ map_rows f front ++ map_rows f back
map_append f [] back = refl
map_append f (row ∷ rows) back = ap (λ z. (row.0, f row.1) ∷ z) (map_append f rows back)

map_map : {A B C : Type 0} (f : A → B) (g : B → C) (rows : Rows A)
    → map_rows g (map_rows f rows) ≡ map_rows (λ x. g (f x)) rows
map_map f g [] = refl
map_map f g (row ∷ rows) = ap (λ z. (row.0, g (f row.1)) ∷ z) (map_map f g rows)

map_id : {A : Type 0} (rows : Rows A) → map_rows (λ x. x) rows ≡ rows
map_id [] = refl
map_id (row ∷ rows) = ap (λ z. row ∷ z) (map_id rows)

pub envs_append : (g : Graph) (front back : Rows EnvId) → AreEnvs g front → AreEnvs g back → AreEnvs g (front ++ back)
envs_append g [] back h k = k
envs_append g (row ∷ rows) back h k = (h.0, envs_append g rows back h.1 k)

envs_behind : (g : Graph) (front back : Rows EnvId) → AreEnvs g (front ++ back) → AreEnvs g back
envs_behind g [] back h = h
envs_behind g (row ∷ rows) back h = envs_behind g rows back h.1

-- a row's environment is of the graph where all are, and all are where one more is
pub envs_at : (g : Graph) (rows : Rows EnvId) (i : ℕ) (row : List ℕ × EnvId) → i < length rows → AreEnvs g rows
    → HasEnv g (get_or rows i row).1
envs_at g [] i row h k = absurd (omega (arith, h))
envs_at g (x ∷ rows) zero row h k = k.0
envs_at g (x ∷ rows) (suc i) row h k = envs_at g rows i row (omega (arith, h)) k.1

pub envs_more : (g : Graph) (rows : Rows EnvId) (i : ℕ) (row : List ℕ × EnvId) → i < length rows
    → AreEnvs g (take i rows) → HasEnv g (get_or rows i row).1 → AreEnvs g (take (i + 1) rows)
envs_more g rows i row h k l =
    let next : i + 1 ≡ suc i = omega arith in
    subst (AreEnvs g) (sym (ap (λ n. take n rows) next ∙ take-suc rows i row h))
    (envs_append g (take i rows) (get_or rows i row ∷ []) k (l, tt))

take_more : {A : Type 0} (old more new : List A) → new ≡ old ++ more → take (length old) new ≡ old
take_more old more new h = ap (λ z. take (length old) z) h ∙ take-append_seam old more

-- rows behind others leave the first ones as they are
pub front_more : {A : Type 0} (old trail more new : List A) → take (length old) trail ≡ old → new ≡ trail ++ more
    → take (length old) new ≡ old
front_more old trail more new h e =
    ap (λ z. take (length old) z) e ∙ take-append-le (length old) trail more (taken_within old trail h) ∙ h

-- ---- the tables in scope

tables_back : (rows : Table Env) → table_of (structures_of rows) ≡ rows
tables_back = keeps_structures.table

pub structures_are : {V : Type 0} (g : Graph) (read : V → ValueEntry) (sc : Bindings V)
    → structures (seen g read sc) ≡ structures_seen g sc
structures_are g read sc = tables_back (structures_seen g sc)

-- an environment from its own tables
env_again : (env : Env) → env_of (structures env) (types env) (values env) ≡ env
env_again (Env.MakeEnv ss ts vs) = ap (λ z. Env.MakeEnv z ts vs) (keeps_structures.parts ss)

-- nothing bound over an environment
pub empty_seen : {V : Type 0} (g : Graph) (read : V → ValueEntry) (sc : Bindings V) → sc.structures ≡ []
    → sc.types ≡ [] → sc.values ≡ [] → seen g read sc ≡ env_at g sc.below
empty_seen g read sc s t v =
    ap (λ rows. env_of (with_all (map_rows (env_at g) rows) (structures (env_at g sc.below))) (types_seen g sc)
    (values_seen g read sc)) s
    ∙ ap (λ rows. env_of (structures (env_at g sc.below)) (with_all rows (types (env_at g sc.below)))
    (values_seen g read sc)) t
    ∙ ap (λ rows. env_of (structures (env_at g sc.below)) (types (env_at g sc.below))
    (with_all (map_rows (bound_entry read) rows) (values (env_at g sc.below)))) v
    ∙ env_again (env_at g sc.below)

-- ---- a scope with more bindings

pub record Grows {V : Type 0} (old new : Bindings V) (s : Rows EnvId) (t : Rows TypeStr) (v : Rows (BoundValue V))
    (w : Rows TyId) : Type 0 where
  pub below : new.below ≡ old.below
  pub structures : new.structures ≡ old.structures ++ s
  pub types : new.types ≡ old.types ++ t
  pub values : new.values ≡ old.values ++ v
  pub written : new.written ≡ old.written ++ w

module _ {V : Type 0} (old new : Bindings V) (s : Rows EnvId) (t : Rows TypeStr) (v : Rows (BoundValue V))
    (w : Rows TyId) (h : Grows old new s t v w) where
  pub grown_front : old.hidden ≤ length old.written → IsFrontOf old new
  grown_front kept = record {
    below = h.below;
    structures = take_more old.structures s new.structures h.structures;
    types = take_more old.types t new.types h.types;
    values = take_more old.values v new.values h.values;
    written = take_more old.written w new.written h.written;
    hidden = kept;
  }

  pub grown_there : (g : Graph) → AreEnvs g s → IsScopeOf g old → IsScopeOf g new
  grown_there g more there = record {
    below = subst (HasEnv g) (sym h.below) there.below;
    structures = subst (AreEnvs g) (sym h.structures) (envs_append g old.structures s there.structures more);
  }

  pub grown_structures : (g : Graph)
      → structures_seen g new ≡ with_all (map_rows (env_at g) s) (structures_seen g old)
  grown_structures g =
      ap (λ id. with_all (map_rows (env_at g) new.structures) (structures (env_at g id))) h.below
      ∙ ap (λ rows. with_all (map_rows (env_at g) rows) (structures (env_at g old.below))) h.structures
      ∙ ap (λ rows. with_all rows (structures (env_at g old.below))) (map_append (env_at g) old.structures s)
      ∙ all_append (map_rows (env_at g) old.structures) (map_rows (env_at g) s) (structures (env_at g old.below))

  pub grown_types : (g : Graph) → types_seen g new ≡ with_all t (types_seen g old)
  grown_types g =
      ap (λ id. with_all new.types (types (env_at g id))) h.below
      ∙ ap (λ rows. with_all rows (types (env_at g old.below))) h.types
      ∙ all_append old.types t (types (env_at g old.below))

  pub grown_values : (g : Graph) (read : V → ValueEntry)
      → values_seen g read new ≡ with_all (map_rows (bound_entry read) v) (values_seen g read old)
  grown_values g read =
      ap (λ id. with_all (map_rows (bound_entry read) new.values) (values (env_at g id))) h.below
      ∙ ap (λ rows. with_all (map_rows (bound_entry read) rows) (values (env_at g old.below))) h.values
      ∙ ap (λ rows. with_all rows (values (env_at g old.below))) (map_append (bound_entry read) old.values v)
      ∙ all_append (map_rows (bound_entry read) old.values) (map_rows (bound_entry read) v) (values (env_at g old.below))

  pub grown_seen : (g : Graph) (read : V → ValueEntry) → seen g read new ≡ env_of
      (with_all (map_rows (env_at g) s) (structures_seen g old))
      (with_all t (types_seen g old))
      (with_all (map_rows (bound_entry read) v) (values_seen g read old))
  grown_seen g read =
      ap (λ z. env_of z (types_seen g new) (values_seen g read new)) (grown_structures g)
      ∙ ap (λ z. env_of (with_all (map_rows (env_at g) s) (structures_seen g old)) z (values_seen g read new))
      (grown_types g)
      ∙ ap (λ z. env_of (with_all (map_rows (env_at g) s) (structures_seen g old)) (with_all t (types_seen g old)) z)
      (grown_values g read)

-- an environment by its tables, where those of structures are read back
env_by : (rows old : Table Env) (ts : Table TypeStr) (vs : Table ValueEntry)
    → env_of (with_all rows old) ts vs ≡ env_of (with_all rows (table_of (structures_of old))) ts vs
env_by rows old ts vs = ap (λ z. env_of (with_all rows z) ts vs) (sym (tables_back old))

-- nothing behind rows
nothing_more : {A : Type 0} (old new : List A) → new ≡ old → new ≡ old ++ []
nothing_more old new h = h ∙ sym (append-nil old)

-- ---- one binding more

module _ {V : Type 0} (old new : Bindings V) (kept : old.hidden ≤ length old.written) (below : new.below ≡ old.below)
    (written : new.written ≡ old.written) (hidden : new.hidden ≡ old.hidden) where
  same_written : written_of new ≡ written_of old
  same_written =
      ap (λ n. reverse (drop n new.written)) hidden ∙ ap (λ rows. reverse (drop old.hidden rows)) written

  pub structure_bound : (name : List ℕ) (env : EnvId) → new.structures ≡ old.structures ++ (name, env) ∷ []
      → new.types ≡ old.types → new.values ≡ old.values → (g : Graph) → HasEnv g env → Becomes g old new
      (λ read. with_structure name (env_at g env) (seen g read old)) (written_of old)
  structure_bound name env ss ts vs g there =
      let h : Grows old new ((name, env) ∷ []) [] [] [] = record {
        below = below;
        structures = ss;
        types = nothing_more old.types new.types ts;
        values = nothing_more old.values new.values vs;
        written = nothing_more old.written new.written written;
      } in
      record {
        seen = λ read.
            grown_seen old new ((name, env) ∷ []) [] [] [] h g read
            ∙ env_by ((name, env_at g env) ∷ []) (structures_seen g old) (types_seen g old) (values_seen g read old);
        written = same_written;
        front = grown_front old new ((name, env) ∷ []) [] [] [] h kept;
        there = grown_there old new ((name, env) ∷ []) [] [] [] h g (there, tt);
      }

  pub type_bound : (name : List ℕ) (x : TypeStr) → new.structures ≡ old.structures
      → new.types ≡ old.types ++ (name, x) ∷ [] → new.values ≡ old.values → (g : Graph) → Becomes g old new
      (λ read. with_type name x (seen g read old)) (written_of old)
  type_bound name x ss ts vs g =
      let h : Grows old new [] ((name, x) ∷ []) [] [] = record {
        below = below;
        structures = nothing_more old.structures new.structures ss;
        types = ts;
        values = nothing_more old.values new.values vs;
        written = nothing_more old.written new.written written;
      } in
      record {
        seen = λ read.
            grown_seen old new [] ((name, x) ∷ []) [] [] h g read
            ∙ env_by [] (structures_seen g old) (with_entry name x (types_seen g old)) (values_seen g read old);
        written = same_written;
        front = grown_front old new [] ((name, x) ∷ []) [] [] h kept;
        there = grown_there old new [] ((name, x) ∷ []) [] [] h g tt;
      }

  pub value_bound : (name : List ℕ) (x : ValueInScope V) → new.structures ≡ old.structures
      → new.types ≡ old.types → new.values ≡ old.values ++ (name, bare x) ∷ [] → (g : Graph) → Becomes g old new
      (λ read. with_value name (entry_of read x) (seen g read old)) (written_of old)
  value_bound name x ss ts vs g =
      let h : Grows old new [] [] ((name, bare x) ∷ []) [] = record {
        below = below;
        structures = nothing_more old.structures new.structures ss;
        types = nothing_more old.types new.types ts;
        values = vs;
        written = nothing_more old.written new.written written;
      } in
      record {
        seen = λ read.
            grown_seen old new [] [] ((name, bare x) ∷ []) [] h g read
            ∙ env_by [] (structures_seen g old) (types_seen g old)
            (with_entry name (entry_of read x) (values_seen g read old));
        written = same_written;
        front = grown_front old new [] [] ((name, bare x) ∷ []) [] h kept;
        there = grown_there old new [] [] ((name, bare x) ∷ []) [] h g tt;
      }

-- ---- written type variables

drop_append : {A : Type 0} (n : ℕ) (front back : List A) → n ≤ length front
    → drop n (front ++ back) ≡ drop n front ++ back
drop_append zero front back h = refl
drop_append (suc n) [] back h = absurd (omega (arith, h))
drop_append (suc n) (x ∷ front) back h = drop_append n front back (omega (arith, h))

drop_whole : {A : Type 0} (front back : List A) → drop (length front) (front ++ back) ≡ back
drop_whole [] back = refl
drop_whole (x ∷ front) back = drop_whole front back

-- rows that were bound last first stand before the others
written_before : {A : Type 0} (n : ℕ) (old rows : List A) → n ≤ length old
    → reverse (drop n (old ++ reverse rows)) ≡ rows ++ reverse (drop n old)
written_before n old rows h =
    ap reverse (drop_append n old (reverse rows) h) ∙ reverse-append (drop n old) (reverse rows)
    ∙ ap (λ z. z ++ reverse (drop n old)) (reverse-reverse rows)

module _ {V : Type 0} (old new : Bindings V) (rows : Rows TyId) (kept : old.hidden ≤ length old.written)
    (below : new.below ≡ old.below) (ss : new.structures ≡ old.structures) (ts : new.types ≡ old.types)
    (vs : new.values ≡ old.values) (ws : new.written ≡ old.written ++ reverse rows) where
  grows : Grows old new [] [] [] (reverse rows)
  grows = record {
    below = below;
    structures = nothing_more old.structures new.structures ss;
    types = nothing_more old.types new.types ts;
    values = nothing_more old.values new.values vs;
    written = ws;
  }

  pub written_bound : new.hidden ≡ old.hidden → (g : Graph)
      → Becomes g old new (λ read. seen g read old) (rows ++ written_of old)
  written_bound hidden g = record {
    seen = λ read. grown_seen old new [] [] [] (reverse rows) grows g read;
    written =
        ap (λ n. reverse (drop n new.written)) hidden ∙ ap (λ z. reverse (drop old.hidden z)) ws
        ∙ written_before old.hidden old.written rows kept;
    front = grown_front old new [] [] [] (reverse rows) grows kept;
    there = grown_there old new [] [] [] (reverse rows) grows g tt;
  }

  pub alone_bound : new.hidden ≡ length old.written → (g : Graph)
      → Becomes g old new (λ read. seen g read old) rows
  alone_bound hidden g = record {
    seen = λ read. grown_seen old new [] [] [] (reverse rows) grows g read;
    written =
        ap (λ n. reverse (drop n new.written)) hidden ∙ ap (λ z. reverse (drop (length old.written) z)) ws
        ∙ ap reverse (drop_whole old.written (reverse rows)) ∙ reverse-reverse rows;
    front = grown_front old new [] [] [] (reverse rows) grows kept;
    there = grown_there old new [] [] [] (reverse rows) grows g tt;
  }

first_append : {A : Type 0} (front : Rows A) (last : List ℕ × A) (name : List ℕ) → first_entry (front ++ last ∷ []) name
    ≡ or_held (first_entry front name) (cond (same last.0 name) (Some last.1) None)
first_append [] last name = refl
first_append {A} (x ∷ front) last name = by_test (same x.0 name) (first_append front last name)
  where
    by_test : (b : Bool) → first_entry (front ++ last ∷ []) name
        ≡ or_held (first_entry front name) (cond (same last.0 name) (Some last.1) None)
        → cond b (Some x.1) (first_entry (front ++ last ∷ []) name)
        ≡ or_held (cond b (Some x.1) (first_entry front name)) (cond (same last.0 name) (Some last.1) None)
    by_test true h = refl
    by_test false h = h

pub bound_next : (trail new whole : Rows TyId) (name : List ℕ) (rows front : List InScope) (row : InScope)
    → name ≡ row.name → rows ≡ front ++ row ∷ [] → trail ++ reverse (written_rows rows) ≡ whole
    → new ≡ trail ++ (name, row.is) ∷ [] → new ++ reverse (written_rows front) ≡ whole
bound_next trail new whole name rows front row copied next h e =
    ap (λ z. z ++ reverse (written_rows front)) (e ∙ ap (λ n. trail ++ (n, row.is) ∷ []) copied)
    ∙ append_assoc trail ((row.name, row.is) ∷ []) (reverse (written_rows front))
    ∙ ap (λ z. trail ++ z)
    (sym (ap (λ z. reverse (written_rows z)) next ∙ ap reverse (rows_append front row)
    ∙ reverse-append (written_rows front) ((row.name, row.is) ∷ [])))
    ∙ h
  where
    rows_append : (front : List InScope) (row : InScope)
        → written_rows (front ++ row ∷ []) ≡ written_rows front ++ (row.name, row.is) ∷ []
    rows_append front row = map-append _ front (row ∷ [])

-- the first of rows that were bound last first
pub first_is : {A : Type 0} (rows : Rows A) (name : List ℕ) → last_entry rows name ≡ first_entry (reverse rows) name
unfolding last_entry
first_is [] name = refl
first_is {A} (row ∷ rows) name =
    entry_or (cond (same row.0 name) (Some row.1) None) rows name
    ∙ ap (λ (o : Option A). or_held o (cond (same row.0 name) (Some row.1) None)) (first_is rows name)
    ∙ sym (ap (λ (z : Rows A). first_entry z name) (reverse-append (row ∷ []) rows)
    ∙ first_append (reverse rows) row name)

-- ---- leaving

abbrev bindings : {V : Type 0} → EnvId → Rows EnvId → Rows TypeStr → Rows (BoundValue V) → Rows TyId → ℕ → Bindings V
bindings a ss ts vs xs m =
    record { below = a; structures = ss; types = ts; values = vs; written = xs; hidden = m }

same_bindings : {V : Type 0} (a b : EnvId) (ss zs : Rows EnvId) (ts us : Rows TypeStr) (vs ws : Rows (BoundValue V))
    (xs ys : Rows TyId) (m n : ℕ) → a ≡ b → ss ≡ zs → ts ≡ us → vs ≡ ws → xs ≡ ys → m ≡ n
    → bindings a ss ts vs xs m ≡ bindings b zs us ws ys n
same_bindings a b ss zs ts us vs ws xs ys m n d e f g h i = cc

-- what a mark's numbers leave of a scope
pub left_is : {V : Type 0} (past now left : Bindings V) → IsFrontOf past now → left.below ≡ now.below
    → left.structures ≡ take (length past.structures) now.structures
    → left.types ≡ take (length past.types) now.types → left.values ≡ take (length past.values) now.values
    → left.written ≡ take (length past.written) now.written
    → left.hidden ≡ min past.hidden (length left.written) → left ≡ past
left_is past now left front below ss ts vs ws hidden =
    let b : left.below ≡ past.below = below ∙ front.below in
    let s : left.structures ≡ past.structures = ss ∙ front.structures in
    let t : left.types ≡ past.types = ts ∙ front.types in
    let v : left.values ≡ past.values = vs ∙ front.values in
    let w : left.written ≡ past.written = ws ∙ front.written in
    let long : length left.written ≡ length past.written = ap length w in
    let h : left.hidden ≡ past.hidden =
    hidden ∙ ap (min past.hidden) long ∙ min-eq_left front.hidden in
    same_bindings left.below past.below left.structures past.structures left.types past.types left.values past.values
    left.written past.written left.hidden past.hidden b s t v w h

pub own_front : {V : Type 0} (sc : Bindings V) → sc.hidden ≤ length sc.written → IsFrontOf sc sc
own_front sc kept = record {
  below = refl;
  structures = take-length sc.structures;
  types = take-length sc.types;
  values = take-length sc.values;
  written = take-length sc.written;
  hidden = kept;
}

-- ---- an environment that is opened

entries_read : {V : Type 0} (read : V → ValueEntry) (rows : Table ValueEntry)
    → map_rows (bound_entry read) (map_rows (λ (x : ValueEntry). bare (value.Entry x)) rows) ≡ rows
entries_read read rows =
    map_map (λ (x : ValueEntry). bare (value.Entry x)) (bound_entry read) rows ∙ map_id rows

pub opened : {V : Type 0} (g : Graph) (env : EnvId) (old new : Bindings V) → old.hidden ≤ length old.written
    → Opens g env old new
    → Becomes g old new (λ read. modified_by (seen g read old) (env_at g env)) (written_of old)
opened {V} g env old new kept o = record {
  seen = λ read.
      ap (λ z. env_of z (types_seen g new) (values_seen g read new)) ss
      ∙ ap (λ z. env_of (with_all (structures by) (structures_seen g old)) z (values_seen g read new)) ts
      ∙ ap (λ z. env_of (with_all (structures by) (structures_seen g old)) (with_all (types by) (types_seen g old)) z)
      (vs read)
      ∙ env_by (structures by) (structures_seen g old) (with_all (types by) (types_seen g old))
      (with_all (values by) (values_seen g read old));
  written = ap (λ n. reverse (drop n new.written)) o.hidden ∙ ap (λ rows. reverse (drop old.hidden rows)) o.written;
  front = record {
    below = o.below;
    structures = o.front_structures;
    types = take_more old.types (types by) new.types o.types;
    values = take_more old.values (map_rows (λ (x : ValueEntry). bare (value.Entry x)) (values by)) new.values o.values;
    written = ap (take (length old.written)) o.written ∙ take-length old.written;
    hidden = kept;
  };
  there = λ there. record {
    below = subst (HasEnv g) (sym o.below) there.below;
    structures = o.structures.there there.structures;
  };
}
  where
    by : Env
    by = env_at g env

    ss : structures_seen g new ≡ with_all (structures by) (structures_seen g old)
    ss =
        ap (λ id. with_all (map_rows (env_at g) new.structures) (structures (env_at g id))) o.below
        ∙ ap (λ rows. with_all rows (structures (env_at g old.below))) o.structures.stand
        ∙ all_append (map_rows (env_at g) old.structures) (structures by) (structures (env_at g old.below))

    ts : types_seen g new ≡ with_all (types by) (types_seen g old)
    ts =
        ap (λ id. with_all new.types (types (env_at g id))) o.below
        ∙ ap (λ rows. with_all rows (types (env_at g old.below))) o.types
        ∙ all_append old.types (types by) (types (env_at g old.below))

    vs : (read : V → ValueEntry) → values_seen g read new ≡ with_all (values by) (values_seen g read old)
    vs read =
        ap (λ id. with_all (map_rows (bound_entry read) new.values) (values (env_at g id))) o.below
        ∙ ap (λ rows. with_all (map_rows (bound_entry read) rows) (values (env_at g old.below))) o.values
        ∙ ap (λ rows. with_all rows (values (env_at g old.below)))
        (map_append (bound_entry read) old.values (map_rows (λ (x : ValueEntry). bare (value.Entry x)) (values by))
        ∙ ap (λ rows. map_rows (bound_entry read) old.values ++ rows) (entries_read read (values by)))
        ∙ all_append (map_rows (bound_entry read) old.values) (values by) (values (env_at g old.below))

-- ---- what was made

struct_rows : (g : Graph) (list : List NamedEnv) → structure_rows g list ≡ map_rows (env_at g) (env_rows list)
struct_rows g [] = refl
struct_rows g (e ∷ es) = ap (λ z. (e.name, env_at g e.env) ∷ z) (struct_rows g es)

val_rows : {V : Type 0} (read : V → ValueEntry) (list : List (NamedInScope V))
    → value_rows read list ≡ map_rows (entry_of read) (scope_rows list)
val_rows read [] = refl
val_rows read (e ∷ es) = ap (λ z. (e.name, entry_of read e.entry) ∷ z) (val_rows read es)

-- values as they are bound, read as entries
read_rows : {V : Type 0} (read : V → ValueEntry) (rows : Rows (BoundValue V)) (list : List (NamedInScope V))
    → scope_rows list ≡ map_rows value_of rows → map_rows (bound_entry read) rows ≡ value_rows read list
read_rows read rows list h =
    sym (map_map value_of (entry_of read) rows) ∙ ap (map_rows (entry_of read)) (sym h) ∙ sym (val_rows read list)

bare_rows : {V : Type 0} (rows : Rows (ValueInScope V)) → map_rows value_of (map_rows bare rows) ≡ rows
bare_rows rows = map_map bare value_of rows ∙ map_id rows

has_envs : (g : Graph) (list : List NamedEnv) → AreEnvs g (env_rows list) → HasEnvs g list
has_envs g [] h = tt
has_envs g (e ∷ es) h = (h.0, has_envs g es h.1)

nothing_table : (A : Type 0) → IsTable {A = A} []
nothing_table A = refl

at_once : {A : Type 0} (rows t : Table A) → with_all rows t ≡ with_all (with_all rows []) t
at_once {A} rows t = sym (all_at_once rows [] t (nothing_table A))

since : {A : Type 0} (past now : List A) → take (length past) now ≡ past → now ≡ past ++ drop (length past) now
since past now h =
    sym (take-append-drop (length past) now) ∙ ap (λ z. z ++ drop (length past) now) h

envs_of : (g : Graph) (list : List NamedEnv) → HasEnvs g list → AreEnvs g (env_rows list)
envs_of g [] h = tt
envs_of g (e ∷ es) h = (h.0, envs_of g es h.1)

-- the environment of rows
abbrev env_of_rows : {V : Type 0} (g : Graph) (read : V → ValueEntry) (ss : List NamedEnv) (ts : List NamedType)
    (v : Rows (BoundValue V)) → Env
env_of_rows g read ss ts v = env_of (with_all (structure_rows g ss) []) (with_all (type_rows ts) [])
    (with_all (map_rows (bound_entry read) v) [])

-- lists behind what was bound before
module _ {V : Type 0} (past now : Bindings V) (ss : List NamedEnv) (ts : List NamedType) (v : Rows (BoundValue V)) (w : Rows TyId)
    (h : Grows past now (env_rows ss) (type_rows ts) v w) where
  structs : (g : Graph) → with_all (map_rows (env_at g) (env_rows ss)) (structures_seen g past)
      ≡ with_all (table_of (structures_of (with_all (structure_rows g ss) [])))
      (table_of (structures_of (structures_seen g past)))
  structs g =
      ap (λ rows. with_all rows (structures_seen g past)) (sym (struct_rows g ss))
      ∙ at_once (structure_rows g ss) (structures_seen g past)
      ∙ ap (λ rows. with_all rows (structures_seen g past))
      (sym (tables_back (with_all (structure_rows g ss) [])))
      ∙ ap (with_all (table_of (structures_of (with_all (structure_rows g ss) []))))
      (sym (tables_back (structures_seen g past)))

  pub grown_made : (g : Graph) (read : V → ValueEntry)
      → seen g read now ≡ modified_by (seen g read past) (env_of_rows g read ss ts v)
  grown_made g read =
      grown_seen past now (env_rows ss) (type_rows ts) v w h g read
      ∙ ap (λ z. env_of z (with_all (type_rows ts) (types_seen g past))
      (with_all (map_rows (bound_entry read) v) (values_seen g read past)))
      (structs g)
      ∙ ap (λ z. env_of (with_all (table_of (structures_of (with_all (structure_rows g ss) [])))
      (table_of (structures_of (structures_seen g past)))) z
      (with_all (map_rows (bound_entry read) v) (values_seen g read past)))
      (at_once (type_rows ts) (types_seen g past))
      ∙ ap (λ z. env_of (with_all (table_of (structures_of (with_all (structure_rows g ss) [])))
      (table_of (structures_of (structures_seen g past))))
      (with_all (with_all (type_rows ts) []) (types_seen g past)) z)
      (at_once (map_rows (bound_entry read) v) (values_seen g read past))

pub made_is : {V : Type 0} (past now : Bindings V) (made : Made V) → IsFrontOf past now
    → env_rows made.structures ≡ drop (length past.structures) now.structures
    → type_rows made.types ≡ drop (length past.types) now.types
    → scope_rows made.values ≡ map_rows value_of (drop (length past.values) now.values) → IsMadeSince past now made
made_is {V} past now made front ss ts vs = record {
  structures = ss;
  types = ts;
  values = vs;
  seen = λ g read. grown_made past now made.structures made.types v w h g read
      ∙ ap (λ rows. modified_by (seen g read past) (env_of (with_all (structure_rows g made.structures) [])
      (with_all (type_rows made.types) []) (with_all rows []))) (read_rows read v made.values vs);
  there = λ g there. has_envs g made.structures
      (envs_behind g past.structures (env_rows made.structures) (subst (AreEnvs g) h.structures there.structures));
}
  where
    v : Rows (BoundValue V)
    v = drop (length past.values) now.values

    w : Rows TyId
    w = drop (length past.written) now.written

    h : Grows past now (env_rows made.structures) (type_rows made.types) v w
    h = record {
      below = front.below;
      structures = since past.structures now.structures front.structures ∙ ap (λ z. past.structures ++ z) (sym ss);
      types = since past.types now.types front.types ∙ ap (λ z. past.types ++ z) (sym ts);
      values = since past.values now.values front.values;
      written = since past.written now.written front.written;
    }

-- lists that are bound
pub made_bound : {V : Type 0} (old new : Bindings V) (made : MadeBound V) → old.hidden ≤ length old.written
    → new ≡ more_made made old → (g : Graph) → HasEnvs g made.structures
    → Becomes g old new (λ read. modified_by (seen g read old) (env_of_bound g read made)) (written_of old)
made_bound {V} old new made kept is g there = record {
  seen = λ read. grown_made old new made.structures made.types (bound_rows made.values) [] h g read;
  written = same_written old new kept h.below (ap (λ (sc : Bindings V). sc.written) is)
      (ap (λ (sc : Bindings V). sc.hidden) is);
  front = grown_front old new (env_rows made.structures) (type_rows made.types) (bound_rows made.values) [] h kept;
  there = grown_there old new (env_rows made.structures) (type_rows made.types) (bound_rows made.values) [] h g
      (envs_of g made.structures there);
}
  where
    h : Grows old new (env_rows made.structures) (type_rows made.types) (bound_rows made.values) []
    h = record {
      below = ap (λ (sc : Bindings V). sc.below) is;
      structures = ap (λ (sc : Bindings V). sc.structures) is;
      types = ap (λ (sc : Bindings V). sc.types) is;
      values = ap (λ (sc : Bindings V). sc.values) is;
      written = nothing_more old.written new.written (ap (λ (sc : Bindings V). sc.written) is);
    }

-- the environment of what was made is the same, whatever a table has of it
pub bound_is_made : {V : Type 0} (g : Graph) (read : V → ValueEntry) (made : Made V) (more : MadeBound V)
    → more.structures ≡ made.structures → more.types ≡ made.types
    → map_rows value_of (bound_rows more.values) ≡ scope_rows made.values → env_of_bound g read more ≡ env_of_made g read made
bound_is_made g read made more ss ts vs =
    ap (λ z. env_of (with_all (structure_rows g z) []) (with_all (type_rows more.types) [])
    (with_all (map_rows (bound_entry read) (bound_rows more.values)) [])) ss
    ∙ ap (λ z. env_of (with_all (structure_rows g made.structures) []) (with_all (type_rows z) [])
    (with_all (map_rows (bound_entry read) (bound_rows more.values)) [])) ts
    ∙ ap (λ z. env_of (with_all (structure_rows g made.structures) []) (with_all (type_rows made.types) []) (with_all z []))
    (read_rows read (bound_rows more.values) made.values (sym vs))

pub bare_bound : {V : Type 0} (old new : Bindings V) (made : Made V) (more : MadeBound V) → more.structures ≡ made.structures
    → more.types ≡ made.types → bound_rows more.values ≡ map_rows bare (scope_rows made.values) → (g : Graph)
    → Becomes g old new (λ read. modified_by (seen g read old) (env_of_bound g read more)) (written_of old)
    → Becomes g old new (λ read. modified_by (seen g read old) (env_of_made g read made)) (written_of old)
bare_bound old new made more ss ts vs g b = record {
  seen = λ read. b.seen read ∙ ap (modified_by (seen g read old))
      (bound_is_made g read made more ss ts (ap (map_rows value_of) vs ∙ bare_rows (scope_rows made.values)));
  written = b.written;
  front = b.front;
  there = b.there;
}

-- ---- what holds of all that is bound

pub held_append : {A : Type 0} (P : A → Type 0) (front back : Rows A) → AreHeld P front → AreHeld P back → AreHeld P (front ++ back)
held_append P [] back h k = k
held_append P (row ∷ rows) back h k = (h.0, held_append P rows back h.1 k)

pub held_more : {V : Type 0} (P : BoundValue V → Type 0) (old new : Bindings V) (rows : Rows (BoundValue V)) → AddsBound rows old new
    → AreHeld P rows → AreHeld P old.values → AreHeld P new.values
held_more P old new rows e h k = subst (AreHeld P) (sym e) (held_append P old.values rows k h)

bare_held : {V : Type 0} (P : BoundValue V → Type 0) (rows : Rows (ValueInScope V)) → ((x : ValueInScope V) → P (bare x))
    → AreHeld P (map_rows bare rows)
bare_held P [] h = tt
bare_held P (row ∷ rows) h = (h row.1, bare_held P rows h)

pub held_bare : {V : Type 0} (P : BoundValue V → Type 0) (old new : Bindings V) → ((x : ValueInScope V) → P (bare x))
    → AddsBare old new → AreHeld P old.values → AreHeld P new.values
held_bare P old new b adds k = held_more P old new (map_rows bare adds.0) adds.1 (bare_held P adds.0 b) k

pub all_bare : {V : Type 0} (old new : Bindings V) → AddsBare old new → AreBare old → AreBare new
all_bare old new adds k = held_bare IsBare old new (λ x. refl) adds k

pub adds_nothing : {V : Type 0} (old new : Bindings V) → new.values ≡ old.values → AddsBare old new
adds_nothing old new e = ([], nothing_more old.values new.values e)

pub adds_entries : {V : Type 0} (old new : Bindings V) (rows : Table ValueEntry)
    → new.values ≡ old.values ++ map_rows (λ (x : ValueEntry). bare (value.Entry x)) rows → AddsBare old new
adds_entries {V} old new rows e = (
  map_rows (λ (x : ValueEntry). value.Entry x) rows,
  e ∙ ap (λ (z : Rows (BoundValue V)). old.values ++ z) (sym (map_map (λ (x : ValueEntry). value.Entry x) bare rows)),
)

-- ---- what is looked up

pub value_found : {V : Type 0} (g : Graph) (sc : Bindings V) (name : List ℕ) (read : V → ValueEntry)
    (x : BoundValue V) → last_entry sc.values name ≡ Some x
    → Some (bound_entry read x) ≡ entry name (values (seen g read sc))
value_found g sc name read x h = sym (entry_over (bound_entry read) sc.values (values (env_at g sc.below)) name
    ∙ ap (λ o. or_held (option_map (bound_entry read) o) (entry name (values (env_at g sc.below)))) h)

pub value_below : {V : Type 0} (g : Graph) (sc : Bindings V) (name : List ℕ) (read : V → ValueEntry)
    → last_entry sc.values name ≡ None
    → entry name (values (env_at g sc.below)) ≡ entry name (values (seen g read sc))
value_below g sc name read h = sym (entry_over (bound_entry read) sc.values (values (env_at g sc.below)) name
    ∙ ap (λ o. or_held (option_map (bound_entry read) o) (entry name (values (env_at g sc.below)))) h)

pub type_found : {V : Type 0} (g : Graph) (sc : Bindings V) (name : List ℕ) (read : V → ValueEntry)
    (x : TypeStr) → last_entry sc.types name ≡ Some x → Some x ≡ entry name (types (seen g read sc))
type_found g sc name read x h = sym (entry_under sc.types (types (env_at g sc.below)) name
    ∙ ap (λ o. or_held o (entry name (types (env_at g sc.below)))) h)

pub type_below : {V : Type 0} (g : Graph) (sc : Bindings V) (name : List ℕ) (read : V → ValueEntry)
    → last_entry sc.types name ≡ None
    → entry name (types (env_at g sc.below)) ≡ entry name (types (seen g read sc))
type_below g sc name read h = sym (entry_under sc.types (types (env_at g sc.below)) name
    ∙ ap (λ o. or_held o (entry name (types (env_at g sc.below)))) h)

structure_is : {V : Type 0} (g : Graph) (sc : Bindings V) (name : List ℕ) (read : V → ValueEntry) (o : Option EnvId)
    → last_entry sc.structures name ≡ o
    → entry name (structures (seen g read sc))
    ≡ or_held (option_map (env_at g) o) (entry name (structures (env_at g sc.below)))
structure_is g sc name read o h =
    ap (entry name) (structures_are g read sc)
    ∙ entry_over (env_at g) sc.structures (structures (env_at g sc.below)) name
    ∙ ap (λ z. or_held (option_map (env_at g) z) (entry name (structures (env_at g sc.below)))) h

envs_found : (g : Graph) (rows : Rows EnvId) (held : Option EnvId) (name : List ℕ) (env : EnvId) → AreEnvs g rows
    → ((e : EnvId) → held ≡ Some e → HasEnv g e) → entry_after held rows name ≡ Some env → HasEnv g env
envs_found g [] held name env h k e = k env e
envs_found g (row ∷ rows) held name env h k e =
    envs_found g rows (cond (same row.0 name) (Some row.1) held) name env h.1 (by_test (same row.0 name)) e
  where
    by_test : (b : Bool) (x : EnvId) → cond b (Some row.1) held ≡ Some x → HasEnv g x
    by_test true x d = subst (HasEnv g) (some_is row.1 x d) h.0
    by_test false x d = k x d

none_some : (g : Graph) (e : EnvId) → None ≡ Some e → HasEnv g e
none_some g e h = absurd (cc)

pub structure_found : {V : Type 0} (g : Graph) (sc : Bindings V) (name : List ℕ) (read : V → ValueEntry)
    (env : EnvId) → IsScopeOf g sc → last_entry sc.structures name ≡ Some env
    → FindsEnv g (entry name (structures (seen g read sc))) (Some env)
unfolding last_entry
structure_found g sc name read env there h = (
  envs_found g sc.structures None name env there.structures (none_some g) h,
  structure_is g sc name read (Some env) h,
)

pub structure_below : {V : Type 0} (g : Graph) (sc : Bindings V) (name : List ℕ) (read : V → ValueEntry)
    (found : Option EnvId) → last_entry sc.structures name ≡ None
    → FindsEnv g (entry name (structures (env_at g sc.below))) found
    → FindsEnv g (entry name (structures (seen g read sc))) found
structure_below g sc name read found h k =
    subst (λ want. FindsEnv g want found) (sym (structure_is g sc name read None h)) k

-- ---- graphs that grow

module _ (old new : Graph) (keeps : Keeps old new) where
  envs_stay : (rows : Rows EnvId) → AreEnvs old rows → AreEnvs new rows
  envs_stay [] h = tt
  envs_stay (row ∷ rows) h = (keeps.has_env row.1 h.0, envs_stay rows h.1)

  rows_stay : (rows : Rows EnvId) → AreEnvs old rows → map_rows (env_at new) rows ≡ map_rows (env_at old) rows
  rows_stay [] h = refl
  rows_stay (row ∷ rows) h =
      ap (λ x. (row.0, x) ∷ map_rows (env_at new) rows) (keeps.env row.1 h.0)
      ∙ ap (λ z. (row.0, env_at old row.1) ∷ z) (rows_stay rows h.1)

  pub scope_there : {V : Type 0} (sc : Bindings V) → IsScopeOf old sc → IsScopeOf new sc
  scope_there sc there = record {
    below = keeps.has_env sc.below there.below;
    structures = envs_stay sc.structures there.structures;
  }

  pub scope_seen : {V : Type 0} (read : V → ValueEntry) (sc : Bindings V) → IsScopeOf old sc
      → seen new read sc ≡ seen old read sc
  scope_seen read sc there =
      ap (λ rows. env_of (with_all rows (structures (env_at new sc.below)))
      (with_all sc.types (types (env_at new sc.below)))
      (with_all (map_rows (bound_entry read) sc.values) (values (env_at new sc.below))))
      (rows_stay sc.structures there.structures)
      ∙ ap (λ env. env_of (with_all (map_rows (env_at old) sc.structures) (structures env))
      (with_all sc.types (types env)) (with_all (map_rows (bound_entry read) sc.values) (values env)))
      (keeps.env sc.below there.below)

pub stays_in_scope : (V : Type 0) → StaysInScope V
stays_in_scope V = record {
  there = λ old new sc keeps there. scope_there old new keeps sc there;
  seen = λ old new read sc keeps there. scope_seen old new keeps read sc there;
}

take_front : {A : Type 0} (first next last : List A) → take (length first) next ≡ first
    → take (length next) last ≡ next → take (length first) last ≡ first
take_front first next last h k =
    let short : length first ≤ length next = taken_within first next h in
    sym (take-take (length first) (length next) last short) ∙ ap (take (length first)) k ∙ h

pub fronts_go_on : (V : Type 0) → FrontsGoOn V
fronts_go_on V first next last h k = record {
  below = k.below ∙ h.below;
  structures = take_front first.structures next.structures last.structures h.structures k.structures;
  types = take_front first.types next.types last.types h.types k.types;
  values = take_front first.values next.values last.values h.values k.values;
  written = take_front first.written next.written last.written h.written k.written;
  hidden = h.hidden;
}
