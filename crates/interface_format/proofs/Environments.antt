-- Environments, signatures, functors and tops are told by their nodes.
use Rattle.std.proofs.Common.{◌≡◌, ℕ, refl, sym, ap, ap₂, subst, ◌∙◌, List, ◌∷◌, length, map}
use Rattle.node_bytes.specs.Nodes.{Node, Content}
use Rattle.node_bytes.specs.Shapes.{with_number, with_list}
use Rattle.semantic_objects.specs.declared.name.TyName.{TyName}
use Rattle.semantic_objects.specs.declared.entry.TypeStr.{TypeStr}
use Rattle.semantic_objects.specs.declared.entry.ValueEntry.{ValueEntry}
use Rattle.semantic_objects.specs.Tables.{Table, names_of}
use Rattle.semantic_objects.specs.Environments.{Env, Structures, Signature, Functor, Top, table_of, structures, types, values}
use Rattle.realisation.specs.Names.{names_in_env}
use Rattle.realisation.specs.Canonical.{met, is_bound_name}
use Rattle.interface_format.specs.Tags.{with_named, with_value}
use Rattle.interface_format.specs.Trees.{node_of_type, row_of_value, rows_by, env_node, structure_rows, node_of_signature, node_of_functor, top_node}
use Rattle.interface_format.specs.Rules.{IsNumber, AreNames, IsTypeStructure, IsValueRow, AreTables, IsEnv, AreEnvs, is_beyond, IsSignature, IsFunctor, HasTables}
use Rattle.interface_format.proofs.Told.{part_told, named_told, value_told, list_told, number_then_told}
use Rattle.interface_format.proofs.Entries.{all_told, rows_told, pair_told, rows_counted, structure_told, value_row_told}

content_same : (s t : ℕ) (c d : Content) → Node.node s c ≡ Node.node t d → c ≡ d
content_same s t c d e = cc

-- ---- environments

rows_of_table : (home : List ℕ) (ss : Structures) → rows_by (env_node home) (table_of ss) ≡ structure_rows home ss
rows_of_table home Structures.Nil = refl
rows_of_table home (Structures.Cons name env rest) =
    ap (λ rows. (name, env_node home env) ∷ rows) (rows_of_table home rest)

structures_counted : (home : List ℕ) (ss : Structures) → AreNames (names_of (table_of ss))
    → IsNumber (length (structure_rows home ss))
structures_counted home ss h =
    subst (λ (rows : Table Node). IsNumber (length rows)) (rows_of_table home ss)
    (rows_counted (λ (r : List ℕ × Env). (r.0, env_node home r.1)) (λ (r : List ℕ × Env). r.0) (table_of ss) h)

types_counted : (home : List ℕ) (ts : Table TypeStr) → AreNames (names_of ts)
    → IsNumber (length (rows_by (node_of_type home) ts))
types_counted home ts h =
    rows_counted (λ (r : List ℕ × TypeStr). (r.0, node_of_type home r.1)) (λ (r : List ℕ × TypeStr). r.0) ts h

values_counted : (home : List ℕ) (vs : Table ValueEntry) → AreNames (names_of vs)
    → IsNumber (length (map (row_of_value home) vs))
values_counted home vs h = rows_counted (row_of_value home) (λ (r : List ℕ × ValueEntry). r.0) vs h

-- the three lists of an environment
record Lists (home : List ℕ) (ss zs : Structures) (ts us : Table TypeStr) (vs ws : Table ValueEntry) : Type 0 where
  structures : structure_rows home ss ≡ structure_rows home zs
  types : ts ≡ us
  values : vs ≡ ws

abbrev contents : List ℕ → Structures → Table TypeStr → Table ValueEntry → Content
contents home ss ts vs = with_list with_named (structure_rows home ss)
    (with_list with_named (rows_by (node_of_type home) ts)
    (with_list with_value (map (row_of_value home) vs) Content.nothing))

lists_told : (home : List ℕ) (ss zs : Structures) (ts us : Table TypeStr) (vs ws : Table ValueEntry)
    → AreTables ss ts vs → AreTables zs us ws → contents home ss ts vs ≡ contents home zs us ws
    → Lists home ss zs ts us vs ws
lists_told home ss zs ts us vs ws h k e =
    let end : Table ValueEntry → Content =
    λ rows. with_list with_value (map (row_of_value home) rows) Content.nothing in
    let a = list_told with_named named_told (structure_rows home ss) (structure_rows home zs)
    (with_list with_named (rows_by (node_of_type home) ts) (end vs))
    (with_list with_named (rows_by (node_of_type home) us) (end ws))
    (structures_counted home ss h.structure_names) (structures_counted home zs k.structure_names) e in
    let b = list_told with_named named_told (rows_by (node_of_type home) ts) (rows_by (node_of_type home) us)
    (end vs) (end ws) (types_counted home ts h.type_names) (types_counted home us k.type_names) a.rest in
    let c = list_told with_value value_told (map (row_of_value home) vs) (map (row_of_value home) ws)
    Content.nothing Content.nothing (values_counted home vs h.value_names) (values_counted home ws k.value_names)
    b.rest in
    record {
      structures = a.item;
      types = rows_told (node_of_type home) IsTypeStructure (structure_told home) ts us h.types k.types b.item;
      values = all_told (row_of_value home) IsValueRow (value_row_told home) vs ws h.values k.values c.item;
    }

env_same : (ss zs : Structures) (ts us : Table TypeStr) (vs ws : Table ValueEntry) → ss ≡ zs → ts ≡ us → vs ≡ ws
    → Env.MakeEnv ss ts vs ≡ Env.MakeEnv zs us ws
env_same ss zs ts us vs ws h k l = cc

cons_same : (m n : List ℕ) (d e : Env) (ss zs : Structures) → m ≡ n → d ≡ e → ss ≡ zs
    → Structures.Cons m d ss ≡ Structures.Cons n e zs
cons_same m n d e ss zs h k l = cc

abbrev row : List ℕ → Node → List ℕ × Node
row name x = (name, x)

mutual
  pub env_told : (home : List ℕ) (d e : Env) → IsEnv d → IsEnv e → env_node home d ≡ env_node home e → d ≡ e
  env_told home (Env.MakeEnv ss ts vs) (Env.MakeEnv zs us ws) h k e =
      let l = lists_told home ss zs ts us vs ws h.0 k.0
      (content_same 8 8 (contents home ss ts vs) (contents home zs us ws) e) in
      env_same ss zs ts us vs ws (structures_told home ss zs h.1 k.1 l.structures) l.types l.values

  structures_told : (home : List ℕ) (ss zs : Structures) → AreEnvs ss → AreEnvs zs
      → structure_rows home ss ≡ structure_rows home zs → ss ≡ zs
  structures_told home Structures.Nil Structures.Nil h k e = refl
  structures_told home Structures.Nil (Structures.Cons n b zs) h k e = absurd (cc)
  structures_told home (Structures.Cons m a ss) Structures.Nil h k e = absurd (cc)
  structures_told home (Structures.Cons m a ss) (Structures.Cons n b zs) h k e =
      let p : row m (env_node home a) ≡ row n (env_node home b) = cc in
      let q : structure_rows home ss ≡ structure_rows home zs = cc in
      let r = pair_told (row m (env_node home a)) (row n (env_node home b)) p in
      cons_same m n a b ss zs r.0 (env_told home a b h.0 k.0 r.1) (structures_told home ss zs h.1 k.1 q)

-- ---- signatures and functors

abbrev signature_of : List TyName → Env → Signature
signature_of bound env = record { bound = bound; env = env }

pub signature_told : (home : List ℕ) (s t : Signature) → IsSignature s → IsSignature t
    → node_of_signature home s ≡ node_of_signature home t → s ≡ t
signature_told home s t h k e =
    let a = number_then_told (length s.bound) (length t.bound) (Content.part (env_node home s.env) Content.nothing)
    (Content.part (env_node home t.env) Content.nothing) h.counted k.counted
    (content_same 9 9 (with_number (length s.bound) (Content.part (env_node home s.env) Content.nothing))
    (with_number (length t.bound) (Content.part (env_node home t.env) Content.nothing)) e) in
    let b = part_told (env_node home s.env) (env_node home t.env) Content.nothing Content.nothing a.rest in
    let env = env_told home s.env t.env h.env k.env b.item in
    let bound = h.bound ∙ ap (λ d. met is_bound_name (names_in_env d)) env ∙ sym k.bound in
    ap₂ signature_of bound env

functor_of : List TyName → Env → List TyName → Env → Functor
functor_of bound param further result =
    record { bound = bound; param = param; further = further; result = result }

functor_same : (f g : Functor) → f.bound ≡ g.bound → f.param ≡ g.param → f.further ≡ g.further
    → f.result ≡ g.result
    → functor_of f.bound f.param f.further f.result ≡ functor_of g.bound g.param g.further g.result
functor_same f g h k l m = cc

is_functor : (f : Functor) → functor_of f.bound f.param f.further f.result ≡ f
unfolding functor_of
is_functor f = refl

abbrev functor_contents : List ℕ → Functor → Content
functor_contents home f = with_number (length f.bound) (Content.part (env_node home f.param)
    (with_number (length f.further) (Content.part (env_node home f.result) Content.nothing)))

pub functor_told : (home : List ℕ) (f g : Functor) → IsFunctor f → IsFunctor g
    → node_of_functor home f ≡ node_of_functor home g → f ≡ g
functor_told home f g h k e =
    let end : Functor → Content = λ x. Content.part (env_node home x.result) Content.nothing in
    let more : Functor → Content = λ x. with_number (length x.further) (end x) in
    let a = number_then_told (length f.bound) (length g.bound) (Content.part (env_node home f.param) (more f))
    (Content.part (env_node home g.param) (more g)) h.bound_counted k.bound_counted
    (content_same 10 10 (functor_contents home f) (functor_contents home g) e) in
    let b = part_told (env_node home f.param) (env_node home g.param) (more f) (more g) a.rest in
    let c = number_then_told (length f.further) (length g.further) (end f) (end g) h.further_counted
    k.further_counted b.rest in
    let d = part_told (env_node home f.result) (env_node home g.result) Content.nothing Content.nothing c.rest in
    let param = env_told home f.param g.param h.param k.param b.item in
    let result = env_told home f.result g.result h.result k.result d.item in
    let bound = h.bound ∙ ap (λ x. met is_bound_name (names_in_env x)) param ∙ sym k.bound in
    let further = h.further
    ∙ ap₂ (λ (x : List TyName) (y : Env). met (is_beyond x) (names_in_env y)) bound result ∙ sym k.further in
    sym (is_functor f) ∙ functor_same f g bound param further result ∙ is_functor g

-- ---- tops

-- an environment of structures alone
alone_counted : (home : List ℕ) (d : Env) → IsEnv d → IsNumber (length (rows_by (env_node home) (structures d)))
alone_counted home (Env.MakeEnv ss ts vs) h =
    rows_counted (λ (r : List ℕ × Env). (r.0, env_node home r.1)) (λ (r : List ℕ × Env). r.0) (table_of ss)
    h.0.structure_names

alone_told : (home : List ℕ) (d e : Env) → IsEnv d → IsEnv e → types d ≡ types e → values d ≡ values e
    → rows_by (env_node home) (structures d) ≡ rows_by (env_node home) (structures e) → d ≡ e
alone_told home (Env.MakeEnv ss ts vs) (Env.MakeEnv zs us ws) h k p q e =
    env_same ss zs ts us vs ws
    (structures_told home ss zs h.1 k.1 (sym (rows_of_table home ss) ∙ e ∙ rows_of_table home zs)) p q

top_of : Env → Table Signature → Table Functor → Table Functor → Top
top_of env signatures functors funsigs =
    record { env = env; signatures = signatures; functors = functors; funsigs = funsigs }

top_same : (s t : Top) → s.env ≡ t.env → s.signatures ≡ t.signatures → s.functors ≡ t.functors
    → s.funsigs ≡ t.funsigs
    → top_of s.env s.signatures s.functors s.funsigs ≡ top_of t.env t.signatures t.functors t.funsigs
top_same s t h k l m = cc

is_top : (t : Top) → top_of t.env t.signatures t.functors t.funsigs ≡ t
unfolding top_of
is_top t = refl

table_counted : {A : Type 0} (node : A → Node) (rows : Table A) → AreNames (names_of rows)
    → IsNumber (length (rows_by node rows))
table_counted {A} node rows h =
    rows_counted (λ (r : List ℕ × A). (r.0, node r.1)) (λ (r : List ℕ × A). r.0) rows h

pub top_told : (home : List ℕ) (s t : Top) → HasTables s → HasTables t → top_node home s ≡ top_node home t → s ≡ t
top_told home s t h k e =
    let env : Top → Table Node = λ x. rows_by (env_node home) (structures x.env) in
    let sigs : Top → Table Node = λ x. rows_by (node_of_signature home) x.signatures in
    let funs : Top → Table Node = λ x. rows_by (node_of_functor home) x.functors in
    let fsigs : Top → Table Node = λ x. rows_by (node_of_functor home) x.funsigs in
    let fourth : Top → Content = λ x. with_list with_named (fsigs x) Content.nothing in
    let third : Top → Content = λ x. with_list with_named (funs x) (fourth x) in
    let second : Top → Content = λ x. with_list with_named (sigs x) (third x) in
    let a = list_told with_named named_told (env s) (env t) (second s) (second t) (alone_counted home s.env h.env)
    (alone_counted home t.env k.env)
    (content_same 11 11 (with_list with_named (env s) (second s)) (with_list with_named (env t) (second t)) e) in
    let b = list_told with_named named_told (sigs s) (sigs t) (third s) (third t)
    (table_counted (node_of_signature home) s.signatures h.signature_names)
    (table_counted (node_of_signature home) t.signatures k.signature_names) a.rest in
    let c = list_told with_named named_told (funs s) (funs t) (fourth s) (fourth t)
    (table_counted (node_of_functor home) s.functors h.functor_names)
    (table_counted (node_of_functor home) t.functors k.functor_names) b.rest in
    let d = list_told with_named named_told (fsigs s) (fsigs t) Content.nothing Content.nothing
    (table_counted (node_of_functor home) s.funsigs h.funsig_names)
    (table_counted (node_of_functor home) t.funsigs k.funsig_names) c.rest in
    let same = top_same s t
    (alone_told home s.env t.env h.env k.env (h.no_types ∙ sym k.no_types) (h.no_values ∙ sym k.no_values) a.item)
    (rows_told (node_of_signature home) IsSignature (signature_told home) s.signatures t.signatures h.signatures
    k.signatures b.item)
    (rows_told (node_of_functor home) IsFunctor (functor_told home) s.functors t.functors h.functors k.functors c.item)
    (rows_told (node_of_functor home) IsFunctor (functor_told home) s.funsigs t.funsigs h.funsigs k.funsigs d.item) in
    sym (is_top s) ∙ same ∙ is_top t
