-- What a session has done before a byte is read, and how it ends from there.
use Rattle.std.proofs.Common.{◌≡◌, ◌≢◌, ℕ, ◌+◌, ◌≤◌, ◌<◌, ◌==◌, Bool, true, false, List, [], ◌∷◌, ◌++◌, length, take}
use Rattle.std.proofs.Common.{refl, sym, ◌∙◌, ap, subst, arith, Option, None, Some, length-append}
use Rattle.std.proofs.KnownBytes.{Consumes-nil, Consumes-trans, Appends-nil, Appends-trans, Appends-kept}
use Rattle.std.proofs.lemmas.Bool.{eqb-true}
use Rattle.std.proofs.lemmas.List.{append-nil}
use Rattle.std.proofs.lemmas.List.Elements.{All-append, All-nil, All-cons}
use Rattle.std.specs.Io.KnownBytes.{Appends, Consumes, IsAtEnd}
use Rattle.std.specs.Prelude.{IsSome, Ok}
use Rattle.console_text.specs.declared.line.Line.TheVariants.{Quit}
use Rattle.room_alone.specs.declared.reply.Reply.{Reply}
use Rattle.room_alone.specs.declared.session_end.SessionEnd.{SessionEnd}
use Rattle.room_alone.specs.declared.session_end.SessionEnd.TheVariants as end
use Rattle.bytes_streams.specs.Sink.{BeginsWith}
use Rattle.console_text.specs.ConsoleLine.{Said, said_by}
use Rattle.room_alone.specs.ReplyText.{text_of_reply, bytes_of}
use Rattle.room_alone.specs.Session.{NoQuit, IsAllRead, LastLine, BrokenOff, SessionDid}
use Rattle.room_alone.specs.Answering.{Response, AnsweredAll, AnswersLine, AnswersLast, EntersByte, end_after}
use Rattle.room_alone.specs.Text.{cut_of, said_finished, last_said, lines_of}
use Rattle.room_alone.proofs.AnsweringLemmas.{answered_one, answered_more}
use Rattle.room_alone.proofs.TextLemmas.{lines_of-feed, lines_of-byte, rest-feed, rest-byte, kept-byte, said_by-kept}
use Rattle.room_alone.proofs.TextLemmas.{said_finished-kept}

-- A moment of a session: what the source has left, what the sink has received, and what the console commands.
pub record Moment (S : Type 0) : Type 0 where
  pub left : Option (List ℕ)
  pub received : Option (List ℕ)
  pub state : S

abbrev pub moment : {S : Type 0} → Option (List ℕ) → Option (List ℕ) → S → Moment S
moment left received state = record { left = left; received = received; state = state }

-- Of the bytes read, as many as the count, every finished line is answered, and what can be kept of the rest is kept.
pub record SoFar {S : Type 0} (responds : Response S) (before now : Moment S) (count : ℕ)
    (line : List ℕ) : Type 0 where
  pub read : List ℕ
  pub written : List ℕ
  pub consumed : Consumes before.left now.left read
  pub appended : Appends before.received now.received written
  pub count_is : length read ≡ count
  pub line_is : line ≡ take 202 (cut_of read).rest
  pub no_quit : NoQuit (lines_of false read)
  pub answered : AnsweredAll responds before.state (lines_of false read) written now.state

-- one line was answered between two moments
abbrev pub AnswersBetween : {S : Type 0} → Response S → Option SessionEnd → Said → Moment S → Moment S → Type 0
AnswersBetween responds next said now after =
    AnswersLine responds next said now.state after.state now.received after.received

-- a session from one moment to another
abbrev pub DidBetween : {S : Type 0} → Response S → SessionEnd → Moment S → Moment S → Type 0
DidBetween responds last before after =
    SessionDid
    (AnsweredAll responds) last before.left after.left before.received after.received before.state after.state

no_quit_more : (lines : List Said) (said : Said) → NoQuit lines → said ≢ Ok Quit → NoQuit (lines ++ said ∷ [])
no_quit_more lines said all here =
    let P : Said → Type 0 = λ s. s ≢ Ok Quit in
    All-append P lines (said ∷ []) all (All-cons P said [] here (All-nil P))

pub nothing_yet : {S : Type 0} (responds : Response S) (now : Moment S) → SoFar responds now now 0 []
unfolding cut_of
nothing_yet responds now = record {
  read = [];
  written = [];
  consumed = Consumes-nil now.left;
  appended = Appends-nil now.received;
  count_is = refl;
  line_is = refl;
  no_quit = All-nil (λ (said : Said). said ≢ Ok Quit);
  answered = (refl, refl);
}

-- a source that has failed before gives no byte
pub nothing_read : {S : Type 0} (responds : Response S) (now : Moment S) → DidBetween responds end.Read now now
unfolding cut_of
nothing_read responds now = record {
  read = [];
  written = [];
  consumed = Consumes-nil now.left;
  appended = Appends-nil now.received;
  bound = omega arith;
  session = (omega arith, All-nil (λ (said : Said). said ≢ Ok Quit), (refl, refl));
}

-- a byte that is no line feed
byte_more : {S : Type 0} (responds : Response S) (before now after : Moment S) (count byte : ℕ) (line : List ℕ)
    → SoFar responds before now count line → (byte == 10) ≡ false → Consumes now.left after.left (byte ∷ [])
    → after.state ≡ now.state → after.received ≡ now.received
    → SoFar responds before after (count + 1) (take 202 (line ++ byte ∷ []))
byte_more {S} responds before now after count byte line s h c same kept = record {
  read = s.read ++ byte ∷ [];
  written = s.written;
  consumed = Consumes-trans before.left now.left after.left s.read (byte ∷ []) s.consumed c;
  appended = subst (λ (received : Option (List ℕ)). Appends before.received received s.written) (sym kept) s.appended;
  count_is = omega (arith, length-append s.read (byte ∷ []), s.count_is);
  line_is =
      ap (λ (bytes : List ℕ). take 202 (bytes ++ byte ∷ [])) s.line_is
      ∙ kept-byte (cut_of s.read).rest byte
      ∙ ap (λ (rest : List ℕ). take 202 rest) (sym (rest-byte s.read byte h));
  no_quit = subst NoQuit (sym (lines_of-byte s.read byte h)) s.no_quit;
  answered =
      subst (λ (lines : List Said). AnsweredAll responds before.state lines s.written after.state)
      (sym (lines_of-byte s.read byte h))
      (subst (λ (state : S). AnsweredAll responds before.state (lines_of false s.read) s.written state)
      (sym same) s.answered);
}

-- with a line feed the kept bytes are one line more
lines_now : {S : Type 0} (responds : Response S) (before now : Moment S) (count : ℕ) (line : List ℕ)
    (s : SoFar responds before now count line)
    → lines_of false (s.read ++ 10 ∷ []) ≡ lines_of false s.read ++ said_finished line ∷ []
lines_now responds before now count line s =
    let said : said_finished line ≡ said_finished (cut_of s.read).rest =
    ap said_finished s.line_is ∙ said_finished-kept (cut_of s.read).rest in
    lines_of-feed s.read ∙ ap (λ (said : Said). lines_of false s.read ++ said ∷ []) (sym said)

-- a line feed, and the line was answered
line_more : {S : Type 0} (responds : Response S) (before now after : Moment S) (count : ℕ) (line : List ℕ)
    → SoFar responds before now count line → Consumes now.left after.left (10 ∷ [])
    → AnswersBetween responds None (said_finished line) now after
    → SoFar responds before after (count + 1) []
line_more responds before now after count line s c a =
    let reply : List ℕ = bytes_of a.reply in
    let lines = lines_now responds before now count line s in
    record {
      read = s.read ++ 10 ∷ [];
      written = s.written ++ reply;
      consumed = Consumes-trans before.left now.left after.left s.read (10 ∷ []) s.consumed c;
      appended = Appends-trans before.received now.received after.received s.written reply s.appended a.wrote.1;
      count_is = omega (arith, length-append s.read (10 ∷ []), s.count_is);
      line_is = ap (λ (rest : List ℕ). take 202 rest) (sym (rest-feed s.read));
      no_quit =
          subst NoQuit (sym lines) (no_quit_more (lines_of false s.read) (said_finished line) s.no_quit a.wrote.0);
      answered =
          subst (λ (all : List Said). AnsweredAll responds before.state all (s.written ++ reply) after.state)
          (sym lines)
          (answered_more responds before.state now.state after.state (lines_of false s.read) s.written
          (said_finished line) a.reply s.answered a.responded);
    }

-- a byte was read and entered, and the session goes on
pub goes_on : {S : Type 0} (responds : Response S) (is_feed : Bool) (before now after : Moment S) (count byte : ℕ)
    (line kept : List ℕ)
    → (byte == 10) ≡ is_feed → SoFar responds before now count line → Consumes now.left after.left (byte ∷ [])
    → EntersByte responds is_feed byte None line kept now.state after.state now.received after.received
    → SoFar responds before after (count + 1) kept
goes_on responds true before now after count byte line kept h s c a =
    let feed : byte ≡ 10 = eqb-true byte 10 h in
    subst (λ (bytes : List ℕ). SoFar responds before after (count + 1) bytes) (sym a.1)
    (line_more responds before now after count line s
    (subst (λ (b : ℕ). Consumes now.left after.left (b ∷ [])) feed c) a.0)
goes_on responds false before now after count byte line kept h s c a =
    subst (λ (bytes : List ℕ). SoFar responds before after (count + 1) bytes) (sym a.1)
    (byte_more responds before now after count byte line s h c a.2 a.3)

-- a reply has a byte
some_bytes : (reply : Option Reply) → IsSome reply → 0 < length (bytes_of reply)
some_bytes None h = cc
some_bytes (Some reply) h = omega (arith, length-append (text_of_reply reply) (10 ∷ []))

-- The lines in front were answered, and then the last one, of whose reply this part was written.
broken_off : {S : Type 0} (responds : Response S) (before middle after : S) (front : List Said) (said : Said)
    (written : List ℕ) (reply : Option Reply) (part all : List ℕ)
    → AnsweredAll responds before front written middle → responds middle said reply after → IsSome reply
    → BeginsWith (bytes_of reply) part → all ≡ written ++ part
    → BrokenOff (AnsweredAll responds) before front said all after
broken_off responds before middle after front said written reply part all answered responded has_reply begins is =
    record {
      replies = written;
      middle = middle;
      front_answered = answered;
      reply = bytes_of reply;
      last_answered = answered_one responds middle after said reply responded;
      some = some_bytes reply has_reply;
      part = part;
      begins = begins;
      written_is = is;
    }

-- the same if no byte of its reply was written
unanswered : {S : Type 0} (responds : Response S) (before middle after : S) (front : List Said) (said : Said)
    (written : List ℕ) (reply : Option Reply)
    → AnsweredAll responds before front written middle → responds middle said reply after → IsSome reply
    → (broken : BrokenOff (AnsweredAll responds) before front said written after) × (broken.part ≡ [])
unfolding broken_off
unanswered responds before middle after front said written reply answered responded has_reply = (
  broken_off responds before middle after front said written reply [] written answered responded has_reply
      (bytes_of reply, refl) (sym (append-nil written)),
  refl,
)

-- The session ends with this line, which comes after those in front.
ended_line : {S : Type 0} (responds : Response S) (last : SessionEnd) (ended : Bool) (before now after : Moment S)
    (read written : List ℕ) (front : List Said) (said : Said)
    → Consumes before.left after.left read → Appends before.received now.received written → length read ≤ 16777216
    → LastLine ended after.left read front said
    → AnsweredAll responds before.state front written now.state → AnswersBetween responds (Some last) said now after
    → DidBetween responds last before after
ended_line responds end.Quit ended before now after read written front said c p n last d a =
    let reply : List ℕ = bytes_of a.reply in
    record {
      read = read;
      written = written ++ reply;
      consumed = c;
      appended = Appends-trans before.received now.received after.received written reply p a.wrote.1;
      bound = n;
      session = (
        ended,
        front,
        subst (λ (s : Said). LastLine ended after.left read front s) a.wrote.0 last,
        subst (λ (all : List Said). AnsweredAll responds before.state all (written ++ reply) after.state)
            (sym last.lines_are)
            (answered_more responds before.state now.state after.state front written said a.reply d a.responded),
      );
    }
ended_line responds end.Write ended before now after read written front said c p n last d a = record {
  read = read;
  written = written ++ a.wrote.1.0;
  consumed = c;
  appended = Appends-trans before.received now.received after.received written a.wrote.1.0 p a.wrote.1.2;
  bound = n;
  session = (
    ended,
    front,
    said,
    last,
    broken_off responds before.state now.state after.state front said written a.reply a.wrote.1.0
        (written ++ a.wrote.1.0) d a.responded a.wrote.0 a.wrote.1.1 refl,
  );
}
ended_line responds end.Memory ended before now after read written front said c p n last d a =
    let told = unanswered responds before.state now.state after.state front said written a.reply d a.responded a.wrote.0 in
    record {
      read = read;
      written = written;
      consumed = c;
      appended = Appends-kept before.received now.received after.received written p a.wrote.1;
      bound = n;
      session = (ended, front, said, last, told.0, told.1);
    }
ended_line responds end.Unkept ended before now after read written front said c p n last d a =
    let told = unanswered responds before.state now.state after.state front said written a.reply d a.responded a.wrote.0 in
    record {
      read = read;
      written = written;
      consumed = c;
      appended = Appends-kept before.received now.received after.received written p a.wrote.1;
      bound = n;
      session = (ended, front, said, last, told.0, told.1);
    }
ended_line responds end.EndOfInput ended before now after read written front said c p n last d a = absurd a.wrote
ended_line responds end.Read ended before now after read written front said c p n last d a = absurd a.wrote
ended_line responds end.Bound ended before now after read written front said c p n last d a = absurd a.wrote

-- a byte was read and entered, and the session ended
pub ends_here : {S : Type 0} (responds : Response S) (is_feed : Bool) (last : SessionEnd) (before now after : Moment S)
    (count byte : ℕ) (line kept : List ℕ)
    → (byte == 10) ≡ is_feed → SoFar responds before now count line → count < 16777216
    → Consumes now.left after.left (byte ∷ [])
    → EntersByte responds is_feed byte (Some last) line kept now.state after.state now.received after.received
    → DidBetween responds last before after
ends_here responds true last before now after count byte line kept h s n c a =
    let feed : byte ≡ 10 = eqb-true byte 10 h in
    ended_line responds last false before now after (s.read ++ 10 ∷ []) s.written (lines_of false s.read)
    (said_finished line)
    (Consumes-trans before.left now.left after.left s.read (10 ∷ []) s.consumed
    (subst (λ (b : ℕ). Consumes now.left after.left (b ∷ [])) feed c))
    s.appended
    (omega (arith, length-append s.read (10 ∷ []), s.count_is))
    (record { lines_are = lines_now responds before now count line s; no_quit = s.no_quit; ends = rest-feed s.read })
    s.answered
    a.0
ends_here responds false last before now after count byte line kept h s n c a = let none : Some last ≡ None = a.0 in cc

-- an unfinished line says what its kept bytes say
last_said-kept : (line rest : List ℕ) → line ≡ take 202 rest → last_said rest ≡ last_said line
last_said-kept [] [] h = refl
last_said-kept [] (byte ∷ bytes) h = cc
last_said-kept (kept ∷ more) [] h = cc
last_said-kept (kept ∷ more) (byte ∷ bytes) h =
    ap (λ (said : Said). said ∷ []) (sym (said_by-kept (byte ∷ bytes)) ∙ ap said_by (sym h))

-- the input ended, and what stood in the last line was answered
last_by : {S : Type 0} (responds : Response S) (next : Option SessionEnd) (before now after : Moment S)
    (read written : List ℕ) (front : List Said) (said : Said)
    → Consumes before.left after.left read → Appends before.received now.received written → IsAllRead after.left read
    → lines_of true read ≡ front ++ said ∷ [] → NoQuit front
    → AnsweredAll responds before.state front written now.state → AnswersBetween responds next said now after
    → DidBetween responds (end_after next) before after
last_by responds (Some last) before now after read written front said c p z lines q d a =
    ended_line responds last true before now after read written front said c p (omega (arith, z.1))
    (record { lines_are = lines; no_quit = q; ends = z }) d a
last_by responds None before now after read written front said c p z lines q d a =
    let reply : List ℕ = bytes_of a.reply in
    record {
      read = read;
      written = written ++ reply;
      consumed = c;
      appended = Appends-trans before.received now.received after.received written reply p a.wrote.1;
      bound = omega (arith, z.1);
      session = (
        z,
        subst NoQuit (sym lines) (no_quit_more front said q a.wrote.0),
        subst (λ (all : List Said). AnsweredAll responds before.state all (written ++ reply) after.state) (sym lines)
            (answered_more responds before.state now.state after.state front written said a.reply d a.responded),
      );
    }

-- the input ended, and what stood in the last line, if that was a byte at least, was answered
pub ended_at_end : {S : Type 0} (responds : Response S) (line : List ℕ) (last : SessionEnd)
    (before now after : Moment S) (count : ℕ)
    → SoFar responds before now count line → count < 16777216 → Consumes now.left after.left [] → IsAtEnd after.left
    → AnswersLast responds last line now.state after.state now.received after.received
    → DidBetween responds last before after
ended_at_end {S} responds [] last before now after count s n c z a =
    let lines : lines_of true s.read ≡ lines_of false s.read =
    ap (λ (more : List Said). lines_of false s.read ++ more) (last_said-kept [] (cut_of s.read).rest s.line_is)
    ∙ append-nil (lines_of false s.read) in
    subst (λ (e : SessionEnd). DidBetween responds e before after) (sym a.0) (record {
      read = s.read;
      written = s.written;
      consumed =
          subst (λ (text : List ℕ). Consumes before.left after.left text) (append-nil s.read)
          (Consumes-trans before.left now.left after.left s.read [] s.consumed c);
      appended = Appends-kept before.received now.received after.received s.written s.appended a.2;
      bound = omega (arith, s.count_is);
      session = (
        (z, omega (arith, s.count_is)),
        subst NoQuit (sym lines) s.no_quit,
        subst (λ (all : List Said). AnsweredAll responds before.state all s.written after.state) (sym lines)
            (subst (λ (state : S). AnsweredAll responds before.state (lines_of false s.read) s.written state)
            (sym a.1) s.answered),
      );
    })
ended_at_end responds (byte ∷ bytes) last before now after count s n c z a =
    let lines : lines_of true s.read ≡ lines_of false s.read ++ said_by (byte ∷ bytes) ∷ [] =
    ap (λ (more : List Said). lines_of false s.read ++ more)
    (last_said-kept (byte ∷ bytes) (cut_of s.read).rest s.line_is) in
    let all : Consumes before.left after.left s.read =
    subst (λ (text : List ℕ). Consumes before.left after.left text) (append-nil s.read)
    (Consumes-trans before.left now.left after.left s.read [] s.consumed c) in
    let few : length s.read < 16777216 = omega (arith, s.count_is) in
    subst (λ (e : SessionEnd). DidBetween responds e before after) (sym a.1)
    (last_by responds a.0 before now after s.read s.written (lines_of false s.read)
    (said_by (byte ∷ bytes)) all s.appended (z, few) lines s.no_quit s.answered a.2)
