-- Tables in which types were made: ids stay what they were made as.
use Rattle.std.proofs.Common.{◌≡◌, ℕ, zero, suc, List, [], ◌∷◌, ◌++◌, length, map, refl, sym, ap₂, ◌∙◌, subst, Some, slice_get, take}
use Rattle.std.proofs.Math.Seq.{take-length}
use Rattle.semantic_objects.specs.declared.name.TyId.{TyId}
use Rattle.type_nodes.specs.Tables.{Table, Has, state, type_of, IsFrontOf}
use Rattle.sml_modules.specs.Items.{map_rows}
use Rattle.sml_modules.specs.Graphs.{Graph}
use Rattle.name_trails.specs.Trails.{Rows}
use Rattle.type_schemes.specs.Instances.{Extends}
use Rattle.type_schemes.specs.Schemes.{HaveAll}
use Rattle.static_semantics.specs.Inferring.{Scope}
use Rattle.core_scopes.specs.Scopes.{Bindings, written_of}
use Rattle.semantic_objects.specs.declared.entry.ValueEntry.{ValueEntry}
use Rattle.type_phrases.specs.Inferred.{KeepsTypes, HaveRows, IsScopeOver, scope_in}
use Rattle.type_phrases.specs.Steps.{IsReadAs, OnlyMakes}

-- ---- what is kept

take_front : {A : Type 0} (a b c : List A) → take (length a) b ≡ a → take (length b) c ≡ b → take (length a) c ≡ a
take_front [] b c h k = refl
take_front (x ∷ a) [] c h k = absurd (cc)
take_front (x ∷ a) (y ∷ b) [] h k = absurd (cc)
take_front {A} (x ∷ a) (y ∷ b) (z ∷ c) h k =
    let i : take (length a) b ≡ a = cc in
    let j : take (length b) c ≡ b = cc in
    let e : y ≡ x = cc in
    let f : z ≡ y = cc in
    ap₂ (λ (w : A) ws. w ∷ ws) (f ∙ e) (take_front a b c i j)

pub front_itself : (t : Table) → IsFrontOf t t
front_itself t = record {
  births = take-length t.births;
  nodes = take-length t.nodes;
  trail = take-length t.trail;
}

pub front_later : (a b c : Table) → IsFrontOf a b → IsFrontOf b c → IsFrontOf a c
front_later a b c h k = record {
  births = take_front a.births b.births c.births h.births k.births;
  nodes = take_front a.nodes b.nodes c.nodes h.nodes k.nodes;
  trail = take_front a.trail b.trail c.trail h.trail k.trail;
}

pub keeps_all : (t : Table) → KeepsTypes t t
keeps_all t = record { front = front_itself t; types = λ a h. refl; ids = λ a h. h }

pub keeps_later : (a b c : Table) → KeepsTypes a b → KeepsTypes b c → KeepsTypes a c
keeps_later a b c h k = record {
  front = front_later a b c h.front k.front;
  types = λ x i. k.types x (h.ids x i) ∙ h.types x i;
  ids = λ x i. k.ids x (h.ids x i);
}

pub keeps_extended : (a b : Table) → Extends a b → KeepsTypes a b
keeps_extended a b h = record { front = h.front; types = h.types; ids = h.ids }

pub makes_nothing : (t : Table) → OnlyMakes t t
makes_nothing t = record { keeps = keeps_all t; state = refl }

pub makes_same : (t new : Table) → new ≡ t → OnlyMakes t new
makes_same t new e = subst (OnlyMakes t) (sym e) (makes_nothing t)

pub makes_later : (a b c : Table) → OnlyMakes a b → OnlyMakes b c → OnlyMakes a c
makes_later a b c h k = record { keeps = keeps_later a b c h.keeps k.keeps; state = k.state ∙ h.state }

pub makes_by : (a b : Table) → Extends a b → state b ≡ state a → OnlyMakes a b
makes_by a b h e = record { keeps = keeps_extended a b h; state = e }

-- ---- ids and rows of the table

pub all_later : (a b : Table) (ids : List TyId) → KeepsTypes a b → HaveAll a ids → HaveAll b ids
all_later a b ids h k i x e = h.ids x (k i x e)

pub types_later : (a b : Table) (ids : List TyId) → KeepsTypes a b → HaveAll a ids
    → map (type_of b) ids ≡ map (type_of a) ids
types_later a b [] h k = refl
types_later a b (x ∷ ids) h k =
    ap₂ (λ t ts. t ∷ ts) (h.types x (k 0 x refl)) (types_later a b ids h (λ i y e. k (suc i) y e))

pub all_nothing : (t : Table) → HaveAll t []
all_nothing t i a e = absurd (cc)

all_at : (t : Table) (ids : List TyId) (x : TyId) (i : ℕ) (a : TyId) → HaveAll t ids → Has t x
    → slice_get (ids ++ x ∷ []) i ≡ Some a → Has t a
all_at t [] x zero a h k e = let f : x ≡ a = cc in subst (Has t) f k
all_at t [] x (suc i) a h k e = absurd (cc)
all_at t (y ∷ ids) x zero a h k e = h 0 a e
all_at t (y ∷ ids) x (suc i) a h k e = all_at t ids x i a (λ j b f. h (suc j) b f) k e

pub all_more : (t : Table) (ids new : List TyId) (x : TyId) → HaveAll t ids → Has t x → new ≡ ids ++ x ∷ []
    → HaveAll t new
all_more t ids new x h k e = subst (HaveAll t) (sym e) (λ i a f. all_at t ids x i a h k f)

pub rows_have : (a b : Table) (rows : Rows TyId) → KeepsTypes a b → HaveRows a rows → HaveRows b rows
rows_have a b [] h k = tt
rows_have a b (row ∷ rows) h k = (h.ids row.1 k.0, rows_have a b rows h k.1)

pub rows_later : (a b : Table) (rows : Rows TyId) → KeepsTypes a b → HaveRows a rows
    → map_rows (type_of b) rows ≡ map_rows (type_of a) rows
rows_later a b [] h k = refl
rows_later a b (row ∷ rows) h k =
    ap₂ (λ t ts. (row.0, t) ∷ ts) (h.types row.1 k.0) (rows_later a b rows h k.1)

rows_snoc : (t : Table) (rows : Rows TyId) (name : List ℕ) (x : TyId) → HaveRows t rows → Has t x
    → HaveRows t (rows ++ (name, x) ∷ [])
rows_snoc t [] name x h k = (k, tt)
rows_snoc t (row ∷ rows) name x h k = (h.0, rows_snoc t rows name x h.1 k)

pub rows_more : (t : Table) (rows new : Rows TyId) (name : List ℕ) (x : TyId) → HaveRows t rows → Has t x
    → new ≡ rows ++ (name, x) ∷ [] → HaveRows t new
rows_more t rows new name x h k e = subst (HaveRows t) (sym e) (rows_snoc t rows name x h k)

-- ---- scopes

pub over_later : {V : Type 0} (g : Graph) (a b : Table) (sc : Bindings V) → KeepsTypes a b → IsScopeOver g a sc
    → IsScopeOver g b sc
over_later g a b sc h k = record { there = k.there; written = rows_have a b (written_of sc) h k.written }

pub read_later : {V : Type 0} (g : Graph) (a b : Table) (sc : Bindings V) (inner : Scope) → KeepsTypes a b
    → IsScopeOver g a sc → IsReadAs g a sc inner → IsReadAs g b sc inner
read_later g a b sc inner h k r = record {
  home = r.home;
  written = r.written ∙ sym (rows_later a b (written_of sc) h k.written);
  read = r.read;
  env = r.env;
}

pub as_read : {V : Type 0} (g : Graph) (t : Table) (read : V → ValueEntry) (sc : Bindings V)
    → IsReadAs g t sc (scope_in g t read sc)
as_read g t read sc = record { home = refl; written = refl; read = read; env = refl }
