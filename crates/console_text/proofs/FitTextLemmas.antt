-- The text of the command that fits a machine, read again.
use Rattle.std.proofs.Common.{◌≡◌, ℕ, ◌+◌, ◌<◌, ◌==◌, ◌&&◌, ◌≤◌, Bool, true, false, if◌then◌else◌, nat_le, List, [], ◌∷◌, ◌++◌}
use Rattle.std.proofs.Common.{length, take, get_or, Option, None, Some, Err, refl, sym, ap, ◌∙◌, append_assoc, append-nil, arith}
use Rattle.std.specs.Prelude.{IfSome, codes}
use Rattle.std.specs.List.{flat_map}
use Rattle.std.specs.Option.{option_map_or}
use Rattle.std.specs.Str.{bytes_eq}
use Rattle.std.proofs.lemmas.Bool.{eqb-true, leb-true}
use Rattle.std.proofs.lemmas.Grind.{flat_map-append}
use Rattle.std.proofs.lemmas.List.{take_more}
use Rattle.std.proofs.lemmas.Slice.Eq.{bytes_eq-Decides}
use Rattle.machine_notation.specs.Prefix.{after_prefix}
use Rattle.machine_notation.proofs.PrefixLemmas.{after_prefix_takes}
use Rattle.machine_tables.specs.Features.{are_some, feature_list, no_features}
use Rattle.machine_tables.specs.declared.features.Feature.{Feature}
use Rattle.machine_tables.specs.declared.features.Feature.TheVariants.{Multiply, MoveRecord, ModifyAddress, BitTest}
use Rattle.machine_tables.specs.declared.features.Feature.TheVariants.{Lengths, ReadPunchRelease, Tapes}
use Rattle.machine_tables.specs.declared.features.Features.{Features}
use Rattle.console_text.specs.declared.line.LineFault.TheVariants.{Word}
use Rattle.console_text.specs.ConsoleLine.{most_line_bytes, said_in_words, said_with}
use Rattle.console_text.specs.Words.{beyond_word, keyword_of, word_in}
use Rattle.console_text.specs.FitText.{feature_word, features_at, features_in, fit_of, fit_text, if_ended, named}
use Rattle.console_text.specs.FitText.{word_if, words_of}

-- the words of one feature more
pub one_word_more : (features : Features) (i : ℕ) (other : Feature) (before text more : List ℕ)
    → i < length feature_list → text ≡ before ++ flat_map (word_if features) (take i feature_list)
    → more ≡ text ++ word_if features (get_or feature_list i other)
    → more ≡ before ++ flat_map (word_if features) (take (i + 1) feature_list)
one_word_more features i other before text more within so_far is =
    let word : List ℕ = word_if features (get_or feature_list i other) in
    let words : List ℕ = flat_map (word_if features) (take i feature_list) in
    let all : flat_map (word_if features) (take (i + 1) feature_list) ≡ words ++ word =
    ap (flat_map (word_if features)) (take_more feature_list i other within)
    ∙ flat_map-append (word_if features) (take i feature_list) (get_or feature_list i other ∷ [])
    ∙ ap (λ (text : List ℕ). words ++ text) (append-nil word) in
    is ∙ ap (λ (text : List ℕ). text ++ word) so_far ∙ append_assoc before words word
    ∙ ap (λ (text : List ℕ). before ++ text) (sym all)

-- what is so with a feature and without it
abbrev Both : (Bool → Type 0) → Type 0
Both P = P true × P false

of_both : (P : Bool → Type 0) → Both P → (b : Bool) → P b
of_both P both true = both.0
of_both P both false = both.1

abbrev made : Bool → Bool → Bool → Bool → Bool → Bool → Bool → Features
made a b c d e f g = record {
  multiply = a;
  move_record = b;
  modify_address = c;
  bit_test = d;
  lengths = e;
  read_punch_release = f;
  tapes = g;
}

-- what is so of all features
abbrev Each : (Features → Type 0) → Type 0
Each P = Both (λ a. Both (λ b. Both (λ c. Both (λ d. Both (λ e. Both (λ f. Both (λ g. P (made a b c d e f g))))))))

of_each : (P : Features → Type 0) → Each P → (features : Features) → P features
of_each P all s =
    let a = s.multiply in
    let b = s.move_record in
    let c = s.modify_address in
    let d = s.bit_test in
    let e = s.lengths in
    let f = s.read_punch_release in
    of_both (λ g. P (made a b c d e f g))
    (of_both (λ f. Both (λ g. P (made a b c d e f g)))
    (of_both (λ e. Both (λ f. Both (λ g. P (made a b c d e f g))))
    (of_both (λ d. Both (λ e. Both (λ f. Both (λ g. P (made a b c d e f g)))))
    (of_both (λ c. Both (λ d. Both (λ e. Both (λ f. Both (λ g. P (made a b c d e f g))))))
    (of_both (λ b. Both (λ c. Both (λ d. Both (λ e. Both (λ f. Both (λ g. P (made a b c d e f g)))))))
    (of_both (λ a. Both (λ b. Both (λ c. Both (λ d. Both (λ e. Both (λ f. Both (λ g. P (made a b c d e f g))))))))
    all a) b) c) d) e) f) s.tapes

-- what is written is read again
each_again : Each (λ features. fit_of (fit_text features) ≡ Some features)
unfolding fit_of features_in fit_text
each_again = (((((((refl, refl), (refl, refl)), ((refl, refl), (refl, refl))), (((refl, refl), (refl, refl)), ((refl, refl), (refl, refl)))), ((((refl, refl), (refl, refl)), ((refl, refl), (refl, refl))), (((refl, refl), (refl, refl)), ((refl, refl), (refl, refl))))), (((((refl, refl), (refl, refl)), ((refl, refl), (refl, refl))), (((refl, refl), (refl, refl)), ((refl, refl), (refl, refl)))), ((((refl, refl), (refl, refl)), ((refl, refl), (refl, refl))), (((refl, refl), (refl, refl)), ((refl, refl), (refl, refl)))))), ((((((refl, refl), (refl, refl)), ((refl, refl), (refl, refl))), (((refl, refl), (refl, refl)), ((refl, refl), (refl, refl)))), ((((refl, refl), (refl, refl)), ((refl, refl), (refl, refl))), (((refl, refl), (refl, refl)), ((refl, refl), (refl, refl))))), (((((refl, refl), (refl, refl)), ((refl, refl), (refl, refl))), (((refl, refl), (refl, refl)), ((refl, refl), (refl, refl)))), ((((refl, refl), (refl, refl)), ((refl, refl), (refl, refl))), (((refl, refl), (refl, refl)), ((refl, refl), (refl, refl)))))))

pub fit_again : (features : Features) → fit_of (fit_text features) ≡ Some features
fit_again features = of_each (λ each. fit_of (fit_text each) ≡ Some each) each_again features

-- a console has no such word
each_unknown : Each (λ features. said_in_words (fit_text features) ≡ Err Word)
unfolding fit_text said_in_words said_with word_in beyond_word keyword_of
each_unknown = (((((((refl, refl), (refl, refl)), ((refl, refl), (refl, refl))), (((refl, refl), (refl, refl)), ((refl, refl), (refl, refl)))), ((((refl, refl), (refl, refl)), ((refl, refl), (refl, refl))), (((refl, refl), (refl, refl)), ((refl, refl), (refl, refl))))), (((((refl, refl), (refl, refl)), ((refl, refl), (refl, refl))), (((refl, refl), (refl, refl)), ((refl, refl), (refl, refl)))), ((((refl, refl), (refl, refl)), ((refl, refl), (refl, refl))), (((refl, refl), (refl, refl)), ((refl, refl), (refl, refl)))))), ((((((refl, refl), (refl, refl)), ((refl, refl), (refl, refl))), (((refl, refl), (refl, refl)), ((refl, refl), (refl, refl)))), ((((refl, refl), (refl, refl)), ((refl, refl), (refl, refl))), (((refl, refl), (refl, refl)), ((refl, refl), (refl, refl))))), (((((refl, refl), (refl, refl)), ((refl, refl), (refl, refl))), (((refl, refl), (refl, refl)), ((refl, refl), (refl, refl)))), ((((refl, refl), (refl, refl)), ((refl, refl), (refl, refl))), (((refl, refl), (refl, refl)), ((refl, refl), (refl, refl)))))))

pub fit_unknown : (features : Features) → said_in_words (fit_text features) ≡ Err Word
fit_unknown features = of_each (λ each. said_in_words (fit_text each) ≡ Err Word) each_unknown features

each_short : Each (λ features. nat_le (length (fit_text features)) most_line_bytes ≡ true)
unfolding fit_text
each_short = (((((((refl, refl), (refl, refl)), ((refl, refl), (refl, refl))), (((refl, refl), (refl, refl)), ((refl, refl), (refl, refl)))), ((((refl, refl), (refl, refl)), ((refl, refl), (refl, refl))), (((refl, refl), (refl, refl)), ((refl, refl), (refl, refl))))), (((((refl, refl), (refl, refl)), ((refl, refl), (refl, refl))), (((refl, refl), (refl, refl)), ((refl, refl), (refl, refl)))), ((((refl, refl), (refl, refl)), ((refl, refl), (refl, refl))), (((refl, refl), (refl, refl)), ((refl, refl), (refl, refl)))))), ((((((refl, refl), (refl, refl)), ((refl, refl), (refl, refl))), (((refl, refl), (refl, refl)), ((refl, refl), (refl, refl)))), ((((refl, refl), (refl, refl)), ((refl, refl), (refl, refl))), (((refl, refl), (refl, refl)), ((refl, refl), (refl, refl))))), (((((refl, refl), (refl, refl)), ((refl, refl), (refl, refl))), (((refl, refl), (refl, refl)), ((refl, refl), (refl, refl)))), ((((refl, refl), (refl, refl)), ((refl, refl), (refl, refl))), (((refl, refl), (refl, refl)), ((refl, refl), (refl, refl)))))))

pub fit_short : (features : Features) → length (fit_text features) ≤ most_line_bytes
fit_short features =
    leb-true (length (fit_text features)) most_line_bytes
    (of_each (λ each. nat_le (length (fit_text each)) most_line_bytes ≡ true) each_short features)

-- a word that comes next, and what follows it
takes : (feature : Feature) (text : List ℕ) (found : Option (List ℕ))
    → ((rest : List ℕ) → found ≡ Some rest → text ≡ feature_word feature ++ rest)
    → (let next : Bool × List ℕ = option_map_or (λ rest. (true, rest)) found (false, text) in
    (if next.0 then feature_word feature else []) ++ next.1 ≡ text)
takes feature text None is = refl
takes feature text (Some rest) is = sym (is rest refl)

word_taken : (feature : Feature) (text : List ℕ)
    → (if (named feature text).0 then feature_word feature else []) ++ (named feature text).1 ≡ text
word_taken feature text =
    takes feature text (after_prefix (feature_word feature) text)
    (λ rest is. after_prefix_takes (feature_word feature) text rest is)

regroup : (a b c d e f g rest : List ℕ)
    → (a ++ (b ++ (c ++ (d ++ (e ++ (f ++ (g ++ []))))))) ++ rest ≡ a ++ (b ++ (c ++ (d ++ (e ++ (f ++ (g ++ rest))))))
regroup a b c d e f g rest = simp append_assoc

-- the words of the features that a text begins with, and what follows them
words_taken : (text : List ℕ)
    → flat_map (word_if (features_at text).0) feature_list ++ (features_at text).1 ≡ text
words_taken text =
    let next : Feature → List ℕ → List ℕ = λ feature text. if (named feature text).0 then feature_word feature else [] in
    let a : List ℕ = (named Multiply text).1 in
    let b : List ℕ = (named MoveRecord a).1 in
    let c : List ℕ = (named ModifyAddress b).1 in
    let d : List ℕ = (named BitTest c).1 in
    let e : List ℕ = (named Lengths d).1 in
    let f : List ℕ = (named ReadPunchRelease e).1 in
    let g : List ℕ = (named Tapes f).1 in
    regroup (next Multiply text) (next MoveRecord a) (next ModifyAddress b) (next BitTest c) (next Lengths d)
    (next ReadPunchRelease e) (next Tapes f) g
    ∙ ap (λ (t : List ℕ).
    next Multiply text ++ (next MoveRecord a ++ (next ModifyAddress b ++ (next BitTest c ++ (next Lengths d
    ++ (next ReadPunchRelease e ++ t))))))
    (word_taken Tapes f)
    ∙ ap (λ (t : List ℕ).
    next Multiply text ++ (next MoveRecord a ++ (next ModifyAddress b ++ (next BitTest c ++ (next Lengths d ++ t)))))
    (word_taken ReadPunchRelease e)
    ∙ ap (λ (t : List ℕ). next Multiply text ++ (next MoveRecord a ++ (next ModifyAddress b ++ (next BitTest c ++ t))))
    (word_taken Lengths d)
    ∙ ap (λ (t : List ℕ). next Multiply text ++ (next MoveRecord a ++ (next ModifyAddress b ++ t))) (word_taken BitTest c)
    ∙ ap (λ (t : List ℕ). next Multiply text ++ (next MoveRecord a ++ t)) (word_taken ModifyAddress b)
    ∙ ap (λ (t : List ℕ). next Multiply text ++ t) (word_taken MoveRecord a)
    ∙ word_taken Multiply text

-- nothing follows the words
nothing_follows : (rest : List ℕ) → (length rest == 0) ≡ true → rest ≡ []
nothing_follows [] none = refl
nothing_follows (byte ∷ rest) none = absurd (omega (arith, eqb-true (length (byte ∷ rest)) 0 none))

by_end : (some ended : Bool) (text words : List ℕ) (found : Features × List ℕ) (features : Features)
    → (ended ≡ true → found.1 ≡ []) → words ++ found.1 ≡ text
    → (if some && ended then Some found.0 else None) ≡ Some features
    → text ≡ (if some then words else codes " NONE")
by_end true true text words found features left are h =
    sym are ∙ ap (λ (rest : List ℕ). words ++ rest) (left refl) ∙ append-nil words
by_end true false text words found features left are h = absurd cc
by_end false ended text words found features left are h = absurd cc

found_is : (test : Bool) (found features : Features) → (if test then Some found else None) ≡ Some features
    → found ≡ features
found_is true found features h = cc
found_is false found features h = absurd cc

by_none : (none : Bool) (text : List ℕ) (found : Features × List ℕ) (features : Features)
    → (none ≡ true → text ≡ codes " NONE") → flat_map (word_if found.0) feature_list ++ found.1 ≡ text
    → (if none then Some no_features else if_ended found) ≡ Some features → text ≡ words_of features
by_none true text found features is are h =
    let same : no_features ≡ features = cc in is refl ∙ ap words_of same
by_none false text found features is are h =
    let same : found.0 ≡ features = found_is (are_some found.0 && (length found.1 == 0)) found.0 features h in
    by_end (are_some found.0) (length found.1 == 0) text (flat_map (word_if found.0) feature_list) found features
    (nothing_follows found.1) are h
    ∙ ap words_of same

words_exact : (text : List ℕ) (features : Features) → features_in text ≡ Some features → text ≡ words_of features
unfolding features_in
words_exact text features h =
    by_none (bytes_eq text (codes " NONE")) text (features_at text) features
    (λ is. (bytes_eq-Decides text (codes " NONE")).0 is) (words_taken text) h

by_fit : (text : List ℕ) (found : Option (List ℕ)) (features : Features)
    → ((rest : List ℕ) → found ≡ Some rest → text ≡ codes "FIT" ++ rest)
    → option_map_or features_in found None ≡ Some features → text ≡ codes "FIT" ++ words_of features
by_fit text None features is h = absurd cc
by_fit text (Some rest) features is h =
    is rest refl ∙ ap (λ (t : List ℕ). codes "FIT" ++ t) (words_exact rest features h)

-- what is read is written so
pub fit_exact : (text : List ℕ) (features : Features) → fit_of text ≡ Some features → text ≡ fit_text features
unfolding fit_of fit_text
fit_exact text features h =
    by_fit text (after_prefix (codes "FIT") text) features
    (λ rest is. after_prefix_takes (codes "FIT") text rest is) h

pub if_exact : (text : List ℕ) (found : Option Features) → found ≡ fit_of text
    → IfSome found (λ features. text ≡ fit_text features)
if_exact text None is = tt
if_exact text (Some features) is = fit_exact text features (sym is)
