-- Links that are followed by doubling are followed one by one, to the ends of their chains.
use Rattle.std.proofs.Common.{◌≡◌, ℕ, zero, suc, ◌+◌, ◌-◌, ◌^◌, ◌<◌, ◌≤◌, Bool, true, false, List, [], ◌∷◌, map, length}
use Rattle.std.proofs.Common.{max, Option, None, Some, ◌⊎◌, inl, inr, refl, sym, ap, ◌∙◌, arith}
use Rattle.std.specs.Prelude.{is_none, is_some, ◌||◌, slice_get, position}
use Rattle.std.specs.List.{AllZip}
use Rattle.std.specs.Option.{option_map, option_and_then, option_map_or, option_or}
use Rattle.std.proofs.Math.IntN.{+ℤ_assoc}
use Rattle.std.proofs.Math.Nat.{pow-suc}
use Rattle.std.proofs.lemmas.Bool.{true≢false, cases_lt}
use Rattle.std.proofs.lemmas.List.{length-map, map-id}
use Rattle.std.proofs.lemmas.Option.{slice_get-map}
use Rattle.std.proofs.lemmas.Simd.{map-map}
use Rattle.autocoder_statements.specs.declared.label.Label.{Label}
use Rattle.autocoder_symbols.specs.Chains.{chained, onward, go_on, twice, twice_over, one_by_one, IsFollowed, Chains, link_of}
use Rattle.autocoder_symbols.specs.Symbols.{same_label}
use Rattle.autocoder_symbols.specs.declared.chains.Link.{Link}

-- if there are no links no label has one
pub none_linked : (this : Chains) (label : Label) → this.links ≡ [] → link_of this label ≡ None
none_linked this label none = by this.links (position (same_label label) this.labels) none
  where
    by : (links : List Link) (found : Option ℕ) → links ≡ [] → option_and_then (slice_get links) found ≡ None
    by [] None e = refl
    by [] (Some i) e = refl
    by (link ∷ links) found e = cc

-- whichever two of three are joined first, the first index register goes first, and the last line counts
pub or_assoc : (one two three : Option ℕ) → option_or (option_or one two) three ≡ option_or one (option_or two three)
or_assoc None two three = refl
or_assoc (Some index) two three = refl

pub max_assoc : (one two three : ℕ) → max (max one two) three ≡ max one (max two three)
max_assoc one two three = omega arith

-- three links are one link, whichever two are joined first
chained_assoc : (one two three : Link) → chained (chained one two) three ≡ chained one (chained two three)
chained_assoc one two three =
    λ i. record {
      to = three.to;
      next = three.next;
      added = +ℤ_assoc one.added two.added three.added i;
      index = or_assoc one.index two.index three.index i;
      last = max_assoc one.last two.last three.last i;
    }

-- two links go on where the second does
onward_chained : (links : List Link) (one two : Link) → onward links (chained one two) ≡ chained one (onward links two)
onward_chained links one two = by (option_and_then (slice_get links) two.next)
  where
    by : (found : Option Link)
        → option_map_or (chained (chained one two)) found (chained one two)
        ≡ chained one (option_map_or (chained two) found two)
    by None = refl
    by (Some three) = chained_assoc one two three

-- and so they do link by link
one_by_one_chained : (n : ℕ) (links : List Link) (one two : Link)
    → one_by_one n links (chained one two) ≡ chained one (one_by_one n links two)
one_by_one_chained zero links one two = refl
one_by_one_chained (suc n) links one two =
    ap (onward links) (one_by_one_chained n links one two) ∙ onward_chained links one (one_by_one n links two)

-- one link and then n are n and then one
one_by_one_onward : (n : ℕ) (links : List Link) (this : Link)
    → one_by_one n links (onward links this) ≡ onward links (one_by_one n links this)
one_by_one_onward zero links this = refl
one_by_one_onward (suc n) links this = ap (onward links) (one_by_one_onward n links this)

-- m links and then n are their sum
one_by_one_sum : (m n : ℕ) (links : List Link) (this : Link)
    → one_by_one (m + n) links this ≡ one_by_one n links (one_by_one m links this)
one_by_one_sum m zero links this =
    let same : m + 0 ≡ m = omega arith in
    ap (λ k. one_by_one k links this) same
one_by_one_sum m (suc n) links this =
    let same : m + suc n ≡ suc (m + n) = omega arith in
    ap (λ k. one_by_one k links this) same ∙ ap (onward links) (one_by_one_sum m n links this)

-- a link that doesn't go on stays
stays : (n : ℕ) (links : List Link) (this : Link) → onward links this ≡ this → one_by_one n links this ≡ this
stays zero links this end = refl
stays (suc n) links this end = ap (onward links) (stays n links this end) ∙ end

-- at the end of its chain a link doesn't go on
goes_no_further : (links : List Link) (this : Link) → this.next ≡ None → onward links this ≡ this
goes_no_further links this end =
    ap (λ next. option_map_or (chained this) (option_and_then (slice_get links) next) this) end

stays_at_end : (n : ℕ) (links : List Link) (this : Link) → this.next ≡ None → one_by_one n links this ≡ this
stays_at_end n links this end = stays n links this (goes_no_further links this end)

-- if none goes on, the links are as far as their chains go
none_goes_on : (all links : List Link) → go_on links ≡ false → map (onward all) links ≡ links
none_goes_on all [] none = refl
none_goes_on all (link ∷ links) none = by link.next refl none (none_goes_on all links)
  where
    by : (next : Option ℕ) → link.next ≡ next → (is_some next || go_on links) ≡ false
        → (go_on links ≡ false → map (onward all) links ≡ links) → map (onward all) (link ∷ links) ≡ link ∷ links
    by None end none rest = λ i. goes_no_further all link end i ∷ rest none i
    by (Some k) is none rest = absurd (true≢false none)

far_enough : (rounds : ℕ) (links : List Link) → go_on links ≡ false → twice_over rounds links ≡ links
far_enough zero links none = refl
far_enough (suc rounds) links none = ap twice (far_enough rounds links none) ∙ none_goes_on links links none

-- some rounds and then more are their sum
twice_over_sum : (rounds more : ℕ) (links : List Link)
    → twice_over (rounds + more) links ≡ twice_over more (twice_over rounds links)
twice_over_sum rounds zero links =
    let same : rounds + 0 ≡ rounds = omega arith in
    ap (λ k. twice_over k links) same
twice_over_sum rounds (suc more) links =
    let same : rounds + suc more ≡ suc (rounds + more) = omega arith in
    ap (λ k. twice_over k links) same ∙ ap twice (twice_over_sum rounds more links)

-- so once none goes on, more rounds change nothing
pub far_by_then : (rounds all : ℕ) (links : List Link) → rounds ≤ all → go_on (twice_over rounds links) ≡ false
    → twice_over rounds links ≡ twice_over all links
far_by_then rounds all links less none =
    let is : all ≡ rounds + (all - rounds) = omega (arith, less) in
    sym (ap (λ k. twice_over k links) is
    ∙ twice_over_sum rounds (all - rounds) links
    ∙ far_enough (all - rounds) (twice_over rounds links) none)

-- what is found in a list once each element is changed
pub found_in_map : (f : Link → Link) (links : List Link) (next : Option ℕ)
    → option_and_then (slice_get (map f links)) next ≡ option_map f (option_and_then (slice_get links) next)
found_in_map f links None = refl
found_in_map f links (Some k) = slice_get-map f links k

-- to go on at a link with n more is to go on at it, and then by n more
onward_far : (n : ℕ) (links : List Link) (this : Link)
    → onward (map (one_by_one n links) links) this ≡ one_by_one n links (onward links this)
onward_far n links this =
    ap (λ found. option_map_or (chained this) found this) (found_in_map (one_by_one n links) links this.next)
    ∙ by (option_and_then (slice_get links) this.next) refl
  where
    by : (found : Option Link) → option_and_then (slice_get links) this.next ≡ found
        → option_map_or (chained this) (option_map (one_by_one n links) found) this
        ≡ one_by_one n links (option_map_or (chained this) found this)
    by None none = sym (stays n links this (ap (λ found. option_map_or (chained this) found this) none))
    by (Some that) there = sym (one_by_one_chained n links this that)

-- so twice as far as n links is n links, one more, and n more
twice_far : (n : ℕ) (links : List Link)
    → twice (map (one_by_one n links) links) ≡ map (one_by_one (suc n + n) links) links
twice_far n links =
    map-map (onward (map (one_by_one n links) links)) (one_by_one n links) links
    ∙ ap (λ f. map f links) (λ i this. each this i)
  where
    each : (this : Link)
        → onward (map (one_by_one n links) links) (one_by_one n links this) ≡ one_by_one (suc n + n) links this
    each this = onward_far n links (one_by_one n links this) ∙ sym (one_by_one_sum (suc n) n links this)

-- after these doublings each link is followed by one link less than that power of two
pub record AreFar (rounds : ℕ) (links : List Link) : Type 0 where
  pub count : ℕ
  pub is_power : suc count ≡ 2 ^ rounds
  pub far : twice_over rounds links ≡ map (one_by_one count links) links

pub are_far : (rounds : ℕ) (links : List Link) → AreFar rounds links
are_far zero links = record { count = 0; is_power = refl; far = sym (map-id links) }
are_far (suc rounds) links = by (are_far rounds links)
  where
    by : AreFar rounds links → AreFar (suc rounds) links
    by so =
        record {
          count = suc so.count + so.count;
          is_power = omega (arith, pow-suc 2 rounds, so.is_power);
          far = ap twice so.far ∙ twice_far so.count links;
        }

-- whether a chain has ended after n links
abbrev has_ended : ℕ → List Link → Link → Bool
has_ended n links this = is_none (one_by_one n links this).next

no_next : (next : Option ℕ) → is_none next ≡ true → next ≡ None
no_next None is = refl
no_next (Some k) is = absurd (true≢false (sym is))

-- which of the chains have ended after n links
abbrev endings : ℕ → List Link → List Bool
endings n links = map (has_ended n links) links

-- a chain ends if it doesn't go on, or goes on at a link whose chain ends
abbrev ends_by : List Bool → Option ℕ → Bool
ends_by ended None = true
ends_by ended (Some k) = option_map_or (λ b. b) (slice_get ended k) false

ended_next : (n : ℕ) (links : List Link) (this : Link)
    → has_ended (suc n) links this ≡ ends_by (endings n links) this.next
ended_next n links this =
    ap (λ (far : Link). is_none far.next) (sym (one_by_one_onward n links this)) ∙ by this.next refl
  where
    on : (next : Option ℕ) (found : Option Link) → this.next ≡ next → option_and_then (slice_get links) next ≡ found
        → onward links this ≡ option_map_or (chained this) found this
    on next found is there =
        ap (λ next. option_map_or (chained this) (option_and_then (slice_get links) next) this) is
        ∙ ap (λ found. option_map_or (chained this) found this) there

    at_end : onward links this ≡ this → is_none (one_by_one n links (onward links this)).next ≡ is_none this.next
    at_end end =
        ap (λ (link : Link). is_none (one_by_one n links link).next) end
        ∙ ap (λ (link : Link). is_none link.next) (stays n links this end)

    at : (k : ℕ) → this.next ≡ Some k → (found : Option Link) → slice_get links k ≡ found
        → is_none (one_by_one n links (onward links this)).next
        ≡ option_map_or (λ b. b) (option_map (has_ended n links) found) false
    at k is None none = at_end (on (Some k) None is none) ∙ ap is_none is
    at k is (Some that) there =
        ap (λ (link : Link). is_none (one_by_one n links link).next) (on (Some k) (Some that) is there)
        ∙ ap (λ (link : Link). is_none link.next) (one_by_one_chained n links this that)

    by : (next : Option ℕ) → this.next ≡ next
        → is_none (one_by_one n links (onward links this)).next ≡ ends_by (endings n links) next
    by None end = at_end (goes_no_further links this end) ∙ ap is_none end
    by (Some k) is =
        at k is (slice_get links k) refl
        ∙ sym (ap (λ found. option_map_or (λ b. b) found false) (slice_get-map (has_ended n links) links k))

-- which chains have ended after one link more depends on which have ended so far
abbrev endings_after : List Link → List Bool → List Bool
endings_after links ended = map (λ (link : Link). ends_by ended link.next) links

endings_next : (n : ℕ) (links : List Link) → endings (suc n) links ≡ endings_after links (endings n links)
endings_next n links = ap (λ f. map f links) (λ i this. ended_next n links this i)

-- how many flags are true: no more than there are
abbrev how_many : List Bool → ℕ
how_many [] = 0
how_many (true ∷ flags) = 1 + how_many flags
how_many (false ∷ flags) = how_many flags

how_many-le : (flags : List Bool) → how_many flags ≤ length flags
how_many-le [] = omega arith
how_many-le (true ∷ flags) = omega (arith, how_many-le flags)
how_many-le (false ∷ flags) = omega (arith, how_many-le flags)

-- what is true before is true after
abbrev Implies : Bool → Bool → Type 0
Implies before after = before ≡ true → after ≡ true

-- flags of which none is taken back stay the same, or more of them are true
grows : (before after : List Bool) → AllZip Implies before after
    → (before ≡ after) ⊎ (how_many before < how_many after)
grows [] [] kept = inl refl
grows [] (b ∷ after) kept = absurd kept
grows (a ∷ before) [] kept = absurd kept
grows (a ∷ before) (b ∷ after) kept = by a b kept.0 (grows before after kept.1)
  where
    by : (a b : Bool) → Implies a b → (before ≡ after) ⊎ (how_many before < how_many after)
        → (a ∷ before ≡ b ∷ after) ⊎ (how_many (a ∷ before) < how_many (b ∷ after))
    by true true first (inl same) = inl (ap (λ flags. true ∷ flags) same)
    by true true first (inr more) = inr (omega (arith, more))
    by true false first rest = absurd (true≢false (sym (first refl)))
    by false true first (inl same) = inr (omega (arith, ap how_many same))
    by false true first (inr more) = inr (omega (arith, more))
    by false false first (inl same) = inl (ap (λ flags. false ∷ flags) same)
    by false false first (inr more) = inr more

-- a chain that has ended has ended after one link more
still_ended : (n : ℕ) (links : List Link) (this : Link)
    → Implies (has_ended n links this) (has_ended (suc n) links this)
still_ended n links this ended =
    ap (λ (far : Link). is_none far.next)
    (goes_no_further links (one_by_one n links this) (no_next (one_by_one n links this).next ended))
    ∙ ended

endings_stay : (n : ℕ) (all links : List Link)
    → AllZip Implies (map (has_ended n all) links) (map (has_ended (suc n) all) links)
endings_stay n all [] = tt
endings_stay n all (link ∷ links) = (still_ended n all link, endings_stay n all links)

-- with each link more another chain has ended, or none ends any more
settling : (n : ℕ) (links : List Link)
    → (endings n links ≡ endings (suc n) links) ⊎ (n < how_many (endings (suc n) links))
settling zero links = by (grows (endings 0 links) (endings 1 links) (endings_stay 0 links links))
  where
    by : (endings 0 links ≡ endings 1 links) ⊎ (how_many (endings 0 links) < how_many (endings 1 links))
        → (endings 0 links ≡ endings 1 links) ⊎ (0 < how_many (endings 1 links))
    by (inl same) = inl same
    by (inr more) = inr (omega (arith, more))
settling (suc n) links =
    by (settling n links)
    (grows (endings (suc n) links) (endings (suc (suc n)) links) (endings_stay (suc n) links links))
  where
    by : (endings n links ≡ endings (suc n) links) ⊎ (n < how_many (endings (suc n) links))
        → (endings (suc n) links ≡ endings (suc (suc n)) links)
        ⊎ (how_many (endings (suc n) links) < how_many (endings (suc (suc n)) links))
        → (endings (suc n) links ≡ endings (suc (suc n)) links) ⊎ (suc n < how_many (endings (suc (suc n)) links))
    by (inl same) more =
        inl (endings_next n links ∙ ap (endings_after links) same ∙ sym (endings_next (suc n) links))
    by (inr before) (inl same) = inl same
    by (inr before) (inr more) = inr (omega (arith, before, more))

-- so after as many links as there are none ends any more
settled : (n : ℕ) (links : List Link) → length links ≤ n → endings (suc n) links ≡ endings n links
settled n links few = by (settling n links)
  where
    by : (endings n links ≡ endings (suc n) links) ⊎ (n < how_many (endings (suc n) links))
        → endings (suc n) links ≡ endings n links
    by (inl same) = sym same
    by (inr more) =
        absurd (omega (arith, few, more, how_many-le (endings (suc n) links), length-map links (has_ended (suc n) links)))

settled_for_good : (n more : ℕ) (links : List Link) → length links ≤ n → endings (n + more) links ≡ endings n links
settled_for_good n zero links few =
    let same : n + 0 ≡ n = omega arith in
    ap (λ k. endings k links) same
settled_for_good n (suc more) links few =
    let same : n + suc more ≡ suc (n + more) = omega arith in
    let enough : length links ≤ n + more = omega (arith, few) in
    ap (λ k. endings k links) same ∙ settled (n + more) links enough ∙ settled_for_good n more links few

-- a link with n more is followed to its end, if its chain has ended by then or never ends
followed_one : (n : ℕ) (links : List Link) (this : Link)
    → ((more : ℕ) → has_ended (n + more) links this ≡ has_ended n links this)
    → IsFollowed links this (one_by_one n links this)
followed_one n links this known =
    record {
      reached = (n, refl);
      ended = ended;
      endless = λ goes_on m end. goes_on (ap (λ (far : Link). far.next) (ended m end) ∙ end);
    }
  where
    ended : (m : ℕ) → (one_by_one m links this).next ≡ None → one_by_one n links this ≡ one_by_one m links this
    ended m end = by (cases_lt m n)
      where
        before : (more : ℕ) → n ≡ m + more → one_by_one n links this ≡ one_by_one m links this
        before more is =
            ap (λ k. one_by_one k links this) is
            ∙ one_by_one_sum m more links this
            ∙ stays_at_end more links (one_by_one m links this) end

        after : (more : ℕ) → m ≡ n + more → one_by_one n links this ≡ one_by_one m links this
        after more is =
            let by_then : has_ended n links this ≡ true =
            sym (known more) ∙ ap (λ k. has_ended k links this) (sym is) ∙ ap is_none end in
            sym (ap (λ k. one_by_one k links this) is
            ∙ one_by_one_sum n more links this
            ∙ stays_at_end more links (one_by_one n links this) (no_next (one_by_one n links this).next by_then))

        by : (m < n) ⊎ (n ≤ m) → one_by_one n links this ≡ one_by_one m links this
        by (inl less) = before (n - m) (omega (arith, less))
        by (inr most) = after (m - n) (omega (arith, most))

followed_each : (n : ℕ) (all links : List Link)
    → ((more : ℕ) → map (has_ended (n + more) all) links ≡ map (has_ended n all) links)
    → AllZip (IsFollowed all) links (map (one_by_one n all) links)
followed_each n all [] known = tt
followed_each n all (link ∷ links) known =
    (followed_one n all link (λ more. cc (known more)), followed_each n all links (λ more. cc (known more)))

-- with fewer links than 2 ^ rounds, these rounds of doubling follow each link to the end of its chain
pub followed_by_doubling : (rounds : ℕ) (links : List Link) → length links < 2 ^ rounds
    → AllZip (IsFollowed links) links (twice_over rounds links)
followed_by_doubling rounds links few = by (are_far rounds links)
  where
    by : AreFar rounds links → AllZip (IsFollowed links) links (twice_over rounds links)
    by so =
        let enough : length links ≤ so.count = omega (arith, few, so.is_power) in
        rw so.far (followed_each so.count links links (λ more. settled_for_good so.count more links enough))
