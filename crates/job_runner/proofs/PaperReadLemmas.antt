-- The text of the paper is read back.
use Rattle.std.proofs.Common.{◌≡◌, ℕ, zero, suc, ◌+◌, ◌-◌, ◌%◌, ◌<◌, ◌≤◌, ◌==◌, ◌&&◌, not, Bool, true, false}
use Rattle.std.proofs.Common.{List, [], ◌∷◌, ◌++◌, replicate, refl, sym, ◌∙◌, ap, arith, append_assoc}
use Rattle.std.proofs.Math.Nat.{add-mod_right, mod-add-mod, mod-eq_of_lt}
use Rattle.std.proofs.lemmas.Bool.{and_parts}
use Rattle.std.proofs.lemmas.Bool.Decides.{nat_tests}
use Rattle.std.proofs.lemmas.List.{append-nil}
use Rattle.std.proofs.lemmas.List.Elements.{recursion_from_All}
use Rattle.std.specs.List.{AllByRecursion, list_all}
use Rattle.std.specs.Prelude.{if◌then◌else◌, nat_lt, slice_index}
use Rattle.bcd_1401.specs.Graphic.{graphics}
use Rattle.devices_1401.specs.Carriage.{forms}
use Rattle.devices_1401.specs.declared.print_line.PrintLine.{PrintLine}
use Rattle.job_runner.specs.declared.paper.PaperPlace.{PaperPlace}
use Rattle.machine_notation.specs.Bytes.{line_feed}
use Rattle.machine_notation.specs.Characters.{graphics_of, trimmed}
use Rattle.job_runner.specs.Paper.{begun_at, form_feed, forms_on, line_text, new_forms, paper_text}
use Rattle.job_runner.specs.Paper.{place_after}
use Rattle.job_runner.specs.PaperRead.{IsOnForm, IsOnlyPaper, IsReadBack, ReadLine, read_back, read_of}
use Rattle.job_runner.specs.PaperRead.{read_of_line, read_on}

-- a byte that doesn't move the paper
abbrev is_still : ℕ → Bool
is_still byte = not (byte == form_feed) && not (byte == line_feed)

-- no graphic does, and nothing is no graphic
table_is_still : (table : List ℕ) (i : ℕ) → list_all is_still table ≡ true → is_still (slice_index table i) ≡ true
table_is_still [] i all = refl
table_is_still (byte ∷ table) zero all = (and_parts (is_still byte) (list_all is_still table) all).0
table_is_still (byte ∷ table) (suc i) all =
    table_is_still table i (and_parts (is_still byte) (list_all is_still table) all).1

graphics_are_still : list_all is_still graphics ≡ true
unfolding graphics
graphics_are_still = refl

still : (chars : List ℕ) → AllByRecursion (λ byte. is_still byte ≡ true) (graphics_of chars)
unfolding graphics_of
still [] = tt
still (char ∷ chars) = (table_is_still graphics char graphics_are_still, still chars)

-- a graphic is read into its line
still_read : (place : PaperPlace) (so_far bytes : List ℕ) (feeds ends : Bool) (byte : ℕ) → (byte == form_feed) ≡ feeds
    → (byte == line_feed) ≡ ends → (not feeds && not ends) ≡ true
    → read_on place so_far (byte ∷ bytes) ≡ read_on place (so_far ++ byte ∷ []) bytes
still_read place so_far bytes true ends byte e_feeds e_ends is_still = cc
still_read place so_far bytes false true byte e_feeds e_ends is_still = cc
still_read place so_far bytes false false byte e_feeds e_ends is_still = rw (e_feeds, e_ends) refl

graphics_read : (place : PaperPlace) (so_far text rest : List ℕ) → AllByRecursion (λ byte. is_still byte ≡ true) text
    → read_on place so_far (text ++ rest) ≡ read_on place (so_far ++ text) rest
graphics_read place so_far [] rest all =
    ap (λ (graphics : List ℕ). read_on place graphics rest) (sym (append-nil so_far))
graphics_read place so_far (byte ∷ text) rest all =
    still_read place so_far (text ++ rest) (byte == form_feed) (byte == line_feed) byte refl refl all.0
    ∙ graphics_read place (so_far ++ byte ∷ []) text rest all.1
    ∙ ap (λ (graphics : List ℕ). read_on place graphics rest) (append_assoc so_far (byte ∷ []) text)

-- line feeds lead down as many lines
lines_read : (n : ℕ) (form line : ℕ) (rest : List ℕ)
    → read_on (record { form = form; line = line }) [] (replicate n line_feed ++ rest)
    ≡ read_on (record { form = form; line = line + n }) [] rest
lines_read zero form line rest =
    ap (λ (at : ℕ). read_on (record { form = form; line = at }) [] rest) (omega arith)
lines_read (suc n) form line rest =
    lines_read n form (line + 1) rest
    ∙ ap (λ (at : ℕ). read_on (record { form = form; line = at }) [] rest) (omega arith)

-- form feeds lead to as many forms on
some_forms_read : (n : ℕ) (place : PaperPlace) (rest : List ℕ)
    → read_on place [] (replicate (suc n) form_feed ++ rest)
    ≡ read_on (record { form = (place.form + suc n) % forms; line = 1 }) [] rest
some_forms_read zero place rest = refl
some_forms_read (suc n) place rest =
    some_forms_read n (record { form = (place.form + 1) % forms; line = 1 }) rest
    ∙ ap (λ (form : ℕ). read_on (record { form = form; line = 1 }) [] rest)
    (mod-add-mod (place.form + 1) forms (suc n) ∙ ap (λ (form : ℕ). form % forms) (omega arith))

forms_read : (n : ℕ) (place : PaperPlace) (rest : List ℕ) → read_on place [] (replicate n form_feed ++ rest)
    ≡ read_on (record {
      form = if n == 0 then place.form else (place.form + n) % forms;
      line = if n == 0 then place.line else 1;
    }) [] rest
forms_read zero place rest = refl
forms_read (suc n) place rest =
    let some : (suc n == 0) ≡ false = grind (arith, nat_tests) in
    rw some (some_forms_read n place rest)

-- the forms that lie between lead to the form of the line
forms_between : (old new : ℕ) → old < forms → new < forms
    → (old + (new + forms - old % forms) % forms) % forms ≡ new
forms_between old new old_is new_is =
    let small : old % forms ≡ old = mod-eq_of_lt old_is in
    let on = new + forms - old % forms in
    let swapped : old + on % forms ≡ on % forms + old = omega arith in
    let whole : on + old ≡ new + forms = omega (arith, small) in
    ap (λ n. n % forms) swapped ∙ mod-add-mod on forms old ∙ ap (λ n. n % forms) whole ∙ add-mod_right new forms
    ∙ mod-eq_of_lt new_is

form_reached : (old new on : ℕ) (same above : Bool) → (on == 0) ≡ same → old < forms → (old + on) % forms ≡ new
    → (let n = if same && above then forms else on in if n == 0 then old else (old + n) % forms) ≡ new
form_reached old new on true true e old_is reached =
    let none : on ≡ 0 = grind (arith, nat_tests) in
    let all : (old + forms) % forms ≡ old % forms = add-mod_right old forms in
    let nothing : old + on ≡ old = omega (arith, none) in
    all ∙ ap (λ n. n % forms) (sym nothing) ∙ reached
form_reached old new on true false e old_is reached =
    let none : on ≡ 0 = grind (arith, nat_tests) in
    let nothing : old + on ≡ old = omega (arith, none) in
    rw e (sym (mod-eq_of_lt old_is) ∙ ap (λ n. n % forms) (sym nothing) ∙ reached)
form_reached old new on false above e old_is reached = rw e reached

-- and its place isn't above the line that comes next there
not_above : (on first line : ℕ) (same above : Bool) → (on == 0) ≡ same → nat_lt line first ≡ above → 1 ≤ line
    → (let n = if same && above then forms else on in if n == 0 then first else 1) ≤ line
not_above on first line true true e_same e_above one = one
not_above on first line true false e_same e_above one = rw e_same (grind (arith, nat_tests))
not_above on first line false above e_same e_above one = rw e_same one

-- a line is read at its place
line_read : (place : PaperPlace) (line : PrintLine) (rest : List ℕ) → place.form < forms → IsOnForm line
    → read_on place [] (line_text place line ++ rest) ≡ read_of_line line ++ read_on (place_after line) [] rest
unfolding line_text
line_read place line rest old_is on =
    let n = new_forms place line in
    let k = line.line - begun_at place line in
    let text = graphics_of (trimmed line.text) in
    let forms_of : List ℕ = replicate n form_feed in
    let lines_of : List ℕ = replicate k line_feed in
    let beyond : List ℕ = text ++ line_feed ∷ rest in
    let same = forms_on place line == 0 in
    let above = nat_lt line.line place.line in
    let form : (if n == 0 then place.form else (place.form + n) % forms) ≡ line.form =
    form_reached place.form line.form (forms_on place line) same above refl old_is
    (forms_between place.form line.form old_is on.form) in
    let first : begun_at place line ≤ line.line =
    not_above (forms_on place line) place.line line.line same above refl refl on.first in
    let down : begun_at place line + k ≡ line.line = omega (arith, first) in
    let parts : line_text place line ++ rest ≡ forms_of ++ (lines_of ++ beyond) = simp append_assoc in
    ap (λ (bytes : List ℕ). read_on place [] bytes) parts
    ∙ forms_read n place (lines_of ++ beyond)
    ∙ lines_read k (if n == 0 then place.form else (place.form + n) % forms) (begun_at place line) beyond
    ∙ ap (λ (at : ℕ). read_on (record { form = at; line = begun_at place line + k }) [] beyond) form
    ∙ ap (λ (at : ℕ). read_on (record { form = line.form; line = at }) [] beyond) down
    ∙ graphics_read (record { form = line.form; line = line.line }) [] text (line_feed ∷ rest) (still (trimmed line.text))

lines_read_back : (place : PaperPlace) (lines : List PrintLine) → place.form < forms → AllByRecursion IsOnForm lines
    → read_back place (paper_text place lines) ≡ read_of lines
lines_read_back place [] old_is all = refl
lines_read_back place (line ∷ lines) old_is all =
    line_read place line (paper_text (place_after line) lines) old_is all.0
    ∙ ap (λ (more : List ReadLine). read_of_line line ++ more)
    (lines_read_back (place_after line) lines all.0.form all.1)

-- the law of the paper's text
pub paper_read_back : (place : PaperPlace) (lines : List PrintLine) → IsReadBack place lines
paper_read_back place lines old_is all = lines_read_back place lines old_is (recursion_from_All IsOnForm lines all)

-- what has one text is read alike
pub only_paper : (place : PaperPlace) (lines : List PrintLine) → IsOnlyPaper place lines
only_paper place lines old_is all other others same =
    sym (paper_read_back place other old_is others)
    ∙ ap (λ (text : List ℕ). read_back place text) same
    ∙ paper_read_back place lines old_is all
