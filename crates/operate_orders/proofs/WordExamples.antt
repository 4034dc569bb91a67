-- The words of a line and their beginnings, computed over the table.
use Rattle.std.proofs.Common.{◌≡◌, ℕ, ◌+◌, ◌-◌, false, List, [], ◌∷◌, length, take, map, replicate, Some, None, refl}
use Rattle.std.specs.Prelude.{Option, codes}
use Rattle.std.specs.List.{flat_map, range_with_len}
use Rattle.operate_orders.specs.declared.words.Keyword.{Keyword}
use Rattle.operate_orders.specs.declared.words.Keyword.TheVariants as keyword
use Rattle.operate_orders.specs.Words.{row_of, keywords, accepts, keyword_of}

-- the beginnings of a word that suffice, each with the word
abbrev beginnings : Keyword → List (List ℕ × Keyword)
beginnings of = map (λ n. (take n (row_of of).letters, of))
    (range_with_len (row_of of).shortest (length (row_of of).letters + 1 - (row_of of).shortest))

abbrev all_beginnings : List (List ℕ × Keyword)
all_beginnings = flat_map beginnings keywords

-- Each of them means its word, so no two words have one in common.
each_beginning_means_its_word : map (λ each. keyword_of each.0) all_beginnings ≡ map (λ each. Some each.1) all_beginnings
unfolding keyword_of
each_beginning_means_its_word = refl

one_letter_fewer_does_not_suffice : map (λ of. accepts (take ((row_of of).shortest - 1) (row_of of).letters) of) keywords
    ≡ replicate 38 false
one_letter_fewer_does_not_suffice = refl

abbrev meant : List (List ℕ) → List (Option Keyword)
meant words = map (λ word. keyword_of word) words

words_of_the_manual : meant (
    codes "E" ∷ codes "EV" ∷ codes "S" ∷ codes "ST" ∷ codes "STA" ∷ codes "SO" ∷ codes "SET" ∷ codes "B" ∷ codes "BA" ∷
    codes "BREAKS" ∷ codes "U" ∷ codes "UN" ∷ codes "UND" ∷ codes "UNM" ∷ codes "D" ∷ codes "DO" ∷ codes "DEL" ∷ [])
    ≡ Some keyword.Examine ∷ Some keyword.Evaluate ∷ Some keyword.Step ∷ Some keyword.Step ∷ Some keyword.Start ∷
    Some keyword.Source ∷ Some keyword.Set ∷ Some keyword.Break ∷ Some keyword.Back ∷ Some keyword.Breaks ∷
    Some keyword.Until ∷ Some keyword.Until ∷ Some keyword.Undo ∷ Some keyword.Unmark ∷ Some keyword.Deposit ∷
    Some keyword.Do ∷ Some keyword.Delete ∷ []
unfolding keyword_of
words_of_the_manual = refl

no_words : meant (codes "STPE" ∷ codes "RES" ∷ codes "WH" ∷ codes "A" ∷ codes "STEPS" ∷ codes "BREAKSS" ∷ [] ∷ [])
    ≡ replicate 7 None
unfolding keyword_of
no_words = refl
