-- Lists that are read item by item, up to the first fault.
use Rattle.std.proofs.Common.{◌≡◌, ◌∙◌, ℕ, suc, ◌+◌, ◌≤◌, List, [], ◌∷◌, ◌++◌, append_assoc, append-nil, length, length-append, drop, map, Option, Some, Result, Ok, Err, refl, sym, ap, subst, codes}
use Rattle.std.specs.Fmt.{decimal}
use Rattle.std.specs.Prelude.{⊤}
use Rattle.std.proofs.lemmas.List.{drop_all}
use Rattle.serde_json.specs.Data.{Data, Items}
use Rattle.serde_json.specs.View.{items_of, items_view, view}
use Rattle.serde_json.specs.declared.value.Value.{Value}
use Rattle.aso_outjson.specs.Fields.{Found, ◌>>=◌, each, joined, lists_in, may, no_others, or_fault, under}
use Rattle.aso_rules.specs.Json.{listed}
use Rattle.aso_outjson.specs.Gives.{Adds, Fails, Gives, IsUnder, behind}
use Rattle.aso_outjson.specs.Members.{member_in, tree_at}
use Rattle.aso_outjson.specs.Words.{capped, is_field}
use Rattle.aso_outjson.specs.declared.object.Object.TheVariants.{Member}
use Rattle.aso_outjson.specs.declared.written.WrittenMember.{WrittenMember}
use Rattle.aso_outjson.specs.declared.trouble.Trouble.{Trouble}
use Rattle.aso_outjson.specs.declared.trouble.Trouble.TheVariants.{Memory, Fault}

-- ---- troubles

pub fails_under : {Y : Type 0} → (name : List ℕ) (t after : Trouble) (found : Found Y) → Fails t found → IsUnder name t after → Fails after (under name found)
fails_under name Memory after found fails moved = subst (λ u. Fails u (under name found)) (sym moved) tt
fails_under name (Fault path) Memory found fails moved = tt
fails_under name (Fault path) (Fault after) found fails moved = ap (under name) fails ∙ ap (λ p. Err p) (sym moved)

fails_bind : {X Y : Type 0} → (t : Trouble) (found : Found X) (more : X → Found Y) → Fails t found → Fails t (found >>= more)
fails_bind Memory found more fails = tt
fails_bind (Fault path) found more fails = ap (λ r. r >>= more) fails

pub fails_same : {Y : Type 0} → (t : Trouble) (found whole : Found Y) → whole ≡ found → Fails t found → Fails t whole
fails_same t found whole same fails = subst (λ r. Fails t r) (sym same) fails

-- what fails behind a list fails by itself
fails_alone : {X : Type 0} → (t : Trouble) (before : List X) (found : Found (List X)) → Fails t (behind before found) → Fails t found
fails_alone Memory before found fails = tt
fails_alone (Fault path) before (Ok xs) fails = absurd (let n : ⊥ = cc in n)
fails_alone (Fault path) before (Err other) fails = fails

-- ---- lists

listed_items : (vs : List Value) → listed (items_of (map view vs)) ≡ map view vs
listed_items [] = refl
listed_items (v ∷ vs) = ap (λ ds. view v ∷ ds) (listed_items vs)

pub array_is : {X : Type 0} → (vs : List Value) (found : Option Items) (f : List Data → Found X) → Some (items_view vs) ≡ found → (or_fault found >>= λ items. f (listed items)) ≡ f (map view vs)
array_is vs found f is = ap (λ o. or_fault o >>= λ items. f (listed items)) (sym is) ∙ ap f (listed_items vs)

-- ---- items

behind_one : {X : Type 0} → (done : List X) (x : X) (rest : Found (List X)) → behind done (rest >>= λ xs. Ok (x ∷ xs)) ≡ behind (done ++ x ∷ []) rest
behind_one done x (Ok xs) = ap (λ ys. Ok ys) (sym (append_assoc done (x ∷ []) xs))
behind_one done x (Err path) = refl

pub behind_none : {X : Type 0} → (found : Found (List X)) → behind [] found ≡ found
behind_none (Ok xs) = refl
behind_none (Err path) = refl

module _ {X : Type 0} (f : Data → Found X) where
  pub items_start : (vs : List Value) → each f 0 (map view vs) ≡ behind [] (each f 0 (map view (drop 0 vs)))
  items_start vs = sym (behind_none (each f 0 (map view vs)))

  pub item_more : (v : Value) (vs : List Value) (i : ℕ) (whole : Found (List X)) (done : List X) (x : X) → f (view v) ≡ Ok x → whole ≡ behind done (each f i (map view (v ∷ vs))) → whole ≡ behind (done ++ x ∷ []) (each f (i + 1) (map view vs))
  item_more v vs i whole done x found before =
      before
      ∙ (ap (λ r. behind done (under (decimal i) r >>= λ y. each f (i + 1) (map view vs) >>= λ ys. Ok (y ∷ ys))) found
      ∙ behind_one done x (each f (i + 1) (map view vs)))

  pub item_fails : (v : Value) (vs : List Value) (i : ℕ) (whole : Found (List X)) (done : List X) (t after : Trouble) → Fails t (f (view v)) → IsUnder (decimal i) t after → whole ≡ behind done (each f i (map view (v ∷ vs))) → Fails after whole
  item_fails v vs i whole done t after fails moved before =
      fails_same after _ whole before
      (fails_bind after _ (λ xs. Ok (done ++ xs)) (fails_bind after (under (decimal i) (f (view v))) (λ y. each f (i + 1) (map view vs) >>= λ ys. Ok (y ∷ ys)) (fails_under (decimal i) t after (f (view v)) fails moved)))

  pub items_end : (vs : List Value) (i : ℕ) (whole : Found (List X)) (done : List X) → length vs ≤ i → whole ≡ behind done (each f i (map view (drop i vs))) → whole ≡ Ok done
  items_end vs i whole done past before = before ∙ (ap (λ ys. behind done (each f i (map view ys))) (drop_all i vs past) ∙ ap (λ ys. Ok ys) (append-nil done))

-- ---- items that are lists

module _ {X : Type 0} (f : ℕ → Data → Found (List X)) where
  behind_list : (now xs : List X) (rest : Found (List X)) → behind now (rest >>= λ ys. Ok (xs ++ ys)) ≡ behind (now ++ xs) rest
  behind_list now xs (Ok ys) = ap (λ zs. Ok zs) (sym (append_assoc now xs ys))
  behind_list now xs (Err path) = refl

  more_of : (found : Found (List X)) (vs : List Value) (i : ℕ) (now next : List X) → behind now found ≡ Ok next
      → behind now (under (decimal i) found >>= λ xs. joined f (i + 1) (length now + length xs) (map view vs) >>= λ ys. Ok (xs ++ ys)) ≡ behind next (joined f (i + 1) (length next) (map view vs))
  more_of (Err path) vs i now next is = absurd (let n : ⊥ = cc in n)
  more_of (Ok xs) vs i now next is =
      let e : now ++ xs ≡ next = cc in
      ap (λ k. behind now (joined f (i + 1) k (map view vs) >>= λ ys. Ok (xs ++ ys))) (sym (length-append now xs))
      ∙ behind_list now xs (joined f (i + 1) (length (now ++ xs)) (map view vs))
      ∙ ap (λ zs. behind zs (joined f (i + 1) (length zs) (map view vs))) e

  pub list_more : (v : Value) (vs : List Value) (i : ℕ) (whole : Found (List X)) (now next : List X) → behind now (f (length now) (view v)) ≡ Ok next → whole ≡ behind now (joined f i (length now) (map view (v ∷ vs))) → whole ≡ behind next (joined f (i + 1) (length next) (map view vs))
  list_more v vs i whole now next added before = before ∙ more_of (f (length now) (view v)) vs i now next added

  pub list_fails : (v : Value) (vs : List Value) (i : ℕ) (start now : List X) (found : Found (List X)) (t after : Trouble) → Fails t (f (length now) (view v)) → IsUnder (decimal i) t after → behind start found ≡ behind now (joined f i (length now) (map view (v ∷ vs))) → Fails after found
  list_fails v vs i start now found t after fails moved before =
      fails_alone after start found
      (fails_same after _ (behind start found) before
      (fails_bind after _ (λ xs. Ok (now ++ xs)) (fails_bind after (under (decimal i) (f (length now) (view v))) (λ xs. joined f (i + 1) (length now + length xs) (map view vs) >>= λ ys. Ok (xs ++ ys)) (fails_under (decimal i) t after (f (length now) (view v)) fails moved))))

  pub lists_end : (vs : List Value) (i : ℕ) (whole : Found (List X)) (now : List X) → length vs ≤ i → whole ≡ behind now (joined f i (length now) (map view (drop i vs))) → whole ≡ Ok now
  lists_end vs i whole now past before = before ∙ (ap (λ ys. behind now (joined f i (length now) (map view ys))) (drop_all i vs past) ∙ ap (λ ys. Ok ys) (append-nil now))

-- ---- a member with those below it

-- the member was pushed, those below it were added, and nothing else may stand there
ends : {X : Type 0} → (result : Result ⊤ Trouble) (below : Found (List X)) (others : Found ⊤) (old after : List X) (m : X) → behind (old ++ m ∷ []) below ≡ Ok after → Gives result others
    → Adds result old after (below >>= λ xs. others >>= λ u. Ok (m ∷ xs))
ends (Ok v) (Ok xs) others old after m is gives = ap (λ o. behind old (o >>= λ u. Ok (m ∷ xs))) gives ∙ behind_one old m (Ok xs) ∙ is
ends (Ok v) (Err path) others old after m is gives = absurd (let n : ⊥ = cc in n)
ends (Err t) (Ok xs) others old after m is gives = fails_bind t others (λ u. Ok (m ∷ xs)) gives
ends (Err t) (Err path) others old after m is gives = absurd (let n : ⊥ = cc in n)

module _ (levels k : ℕ) (deeper : levels ≡ suc k) (parent : ℕ) (old : List WrittenMember) (m : WrittenMember) (d : Data) (is : member_in parent d ≡ Ok m) where
  abbrev pub below : Found (List WrittenMember)
  below = may (lists_in (tree_at k (capped (length old))) (length (old ++ m ∷ []))) [] (codes "children") d

  opened : tree_at levels parent (length old) d ≡ (below >>= λ xs. no_others (is_field Member) d >>= λ u. Ok (m ∷ xs))
  unfolding tree_at
  opened =
      let long : length old + 1 ≡ length (old ++ m ∷ []) = sym (length-append old (m ∷ [])) in
      ap (λ n. tree_at n parent (length old) d) deeper
      ∙ ap (λ r. r >>= λ w. may (lists_in (tree_at k (capped (length old))) (length old + 1)) [] (codes "children") d >>= λ xs. no_others (is_field Member) d >>= λ u. Ok (w ∷ xs)) is
      ∙ ap (λ n. may (lists_in (tree_at k (capped (length old))) n) [] (codes "children") d >>= λ xs. no_others (is_field Member) d >>= λ u. Ok (m ∷ xs)) long

  pub tree_fails : (t : Trouble) → Fails t below → Fails t (tree_at levels parent (length old) d)
  tree_fails t fails = fails_same t _ (tree_at levels parent (length old) d) opened (fails_bind t below (λ xs. no_others (is_field Member) d >>= λ u. Ok (m ∷ xs)) fails)

  pub tree_ends : (result : Result ⊤ Trouble) (after : List WrittenMember) → behind (old ++ m ∷ []) below ≡ Ok after → Gives result (no_others (is_field Member) d) → Adds result old after (tree_at levels parent (length old) d)
  tree_ends result after added gives = subst (λ r. Adds result old after r) (sym opened) (ends result below (no_others (is_field Member) d) old after m added gives)

-- the same, from what the code has at hand
module _ (levels k parent at : ℕ) (old pushed : List WrittenMember) (m : WrittenMember) (d : Data) where
  abbrev pub children_of : Found (List WrittenMember)
  children_of = may (lists_in (tree_at k at) (length pushed)) [] (codes "children") d

  pub tree_fails_at : (t : Trouble) → levels ≡ suc k → at ≡ capped (length old) → pushed ≡ old ++ m ∷ [] → member_in parent d ≡ Ok m → Fails t children_of → Fails t (tree_at levels parent (length old) d)
  tree_fails_at t deeper place put is fails =
      tree_fails levels k deeper parent old m d is t
      (subst (λ n. Fails t (may (lists_in (tree_at k n) (length (old ++ m ∷ []))) [] (codes "children") d)) place
      (subst (λ l. Fails t (may (lists_in (tree_at k at) (length l)) [] (codes "children") d)) put fails))

  pub tree_ends_at : (result : Result ⊤ Trouble) (after : List WrittenMember) → levels ≡ suc k → at ≡ capped (length old) → pushed ≡ old ++ m ∷ [] → member_in parent d ≡ Ok m → behind pushed children_of ≡ Ok after
      → Gives result (no_others (is_field Member) d) → Adds result old after (tree_at levels parent (length old) d)
  tree_ends_at result after deeper place put is added gives =
      tree_ends levels k deeper parent old m d is result after
      (subst (λ n. behind (old ++ m ∷ []) (may (lists_in (tree_at k n) (length (old ++ m ∷ []))) [] (codes "children") d) ≡ Ok after) place
      (subst (λ l. behind l (may (lists_in (tree_at k at) (length l)) [] (codes "children") d) ≡ Ok after) put added))
      gives
