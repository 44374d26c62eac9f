-- The loop over the records: what each turn keeps (`Looping`), and that a turn takes the next record of the file (capture, proofs/Records.antt) and
-- leaves the book as capture_verdict has it.
use Prim.Native.Nat.{ℕ, suc, ◌+◌, ◌^◌, ◌≤◌}
use mathlib.Core.Path.{◌≡◌, refl, sym, ap, ap₂, ◌∙◌}
use mathlib.Core.Bool.{Bool, true, false, cond}
use mathlib.Core.List.{List, [], ◌∷◌, ◌++◌, append_assoc, append-nil}
use native.Mathlib.Omega.{arith}
use lib.Dec.{leb}
use lib.ListN.{length, take, length-append}
use lib.Seq.{length-take-le}
use Rattle.octets.proofs.Written.{take_written}
use Rattle.key_book.specs.Book.{Book}
use Rattle.verdict_line.specs.declared.Line.{Line}
use Rattle.verdict_line.specs.Line.{numbered_most, numbered_line, PutAt}
use Rattle.capture.specs.declared.Order.{Order}
use Rattle.capture.specs.Layout.{file_header_size}
use Rattle.capture.specs.Records.{Record, Records, record_header_of, in_front, records_from, records_of}
use Rattle.capture.proofs.Records.{records_say, next_by_header}
use Rattle.capture_verdict.specs.Lines.{record_line, marks_by, received_by, with_heard, book_by, record_lines, book_at_end, numbered}
use Rattle.judge_capture.specs.Window.{window, RecordThere, NextIs, end_line, CaptureThere}
use Rattle.judge_capture.specs.declared.Next.{Next}
use Rattle.judge_capture.specs.declared.Window.{Window}
use Rattle.judge_capture.specs.declared.Next.TheVariants.{Record as ARecord, AtEnd, Cut, Failed}
use Rattle.judge_capture.specs.Judging.{Judging, Judged, after_line, after_lines, Last, file_ends, file_cut, no_number, Waited, Recorded}
use Rattle.judge_capture.proofs.Windows.{window_parts}
use Rattle.judge_capture.proofs.Taken.{window_size_lem}
use Rattle.std.specs.Prelude.{Some}
use Rattle.capture.specs.Records.{header_with}

-- ---- the records

judging_start : (order : Order) (first : List ℕ) → Judging order first [] first
judging_start order first = record { read = []; goes_on = λ rest. refl }

module _ {order : Order} {first : List ℕ} {records : List Record} {left : List ℕ} (j : Judging order first records left)
    {room : List ℕ} {at end original have : ℕ} (t : RecordThere order left room at end original have) where
  abbrev frame : List ℕ
  frame = window room at end

  abbrev behind : List ℕ
  behind = window room end have

  abbrev taken : Record
  taken = record { frame = frame; original = original }

  says : record_header_of order t.header ≡ header_with (length frame) original
  says =
      let w = t.within in
      let f = t.frame_within in
      rw (window_size_lem room at end t.frame_ordered (omega arith)) t.header_says

  bytes : (rest : List ℕ) → left ++ (t.read ++ rest) ≡ t.header ++ (frame ++ (behind ++ rest))
  bytes rest =
      sym (append_assoc left t.read rest)
      ∙ ap (λ (s : List ℕ). s ++ rest) (t.holds ∙ ap (λ (s : List ℕ). t.header ++ s) (window_parts room at end have t.frame_ordered t.frame_within))
      ∙ append_assoc t.header (frame ++ behind) rest
      ∙ ap (λ (s : List ℕ). t.header ++ s) (append_assoc frame behind rest)

  one_more_lem : (others : Records) → in_front records (in_front (taken ∷ []) others) ≡ in_front (records ++ (taken ∷ [])) others
  one_more_lem others = rw (append_assoc records (taken ∷ []) others.whole)

  judging_turn : Judging order first (records ++ (taken ∷ [])) behind
  judging_turn = record {
    read = j.read ++ t.read;
    goes_on = λ rest.
        ap (λ (s : List ℕ). records_from order (first ++ s)) (append_assoc j.read t.read rest)
        ∙ j.goes_on (t.read ++ rest)
        ∙ ap (λ (s : List ℕ). in_front records (records_from order s)) (bytes rest)
        ∙ ap (in_front records) (next_by_header order t.header frame (behind ++ rest) t.header_size_lem says)
        ∙ one_more_lem (records_from order (behind ++ rest));
  }

-- ---- the book

-- the marks and the received counters are all that records change
at_end_heard : (b : Book) (records : List Record) → book_at_end b records ≡ with_heard b (book_at_end b records).marks (book_at_end b records).received
at_end_heard b [] = refl
at_end_heard b (r ∷ rs) = at_end_heard (book_by b r.frame r.original) rs

at_end_snoc : (b : Book) (records : List Record) (r : Record) → book_at_end b (records ++ (r ∷ [])) ≡ book_by (book_at_end b records) r.frame r.original
at_end_snoc b [] r = refl
at_end_snoc b (x ∷ rs) r = at_end_snoc (book_by b x.frame x.original) rs r

module _ (b : Book) (records : List Record) {marks received : List ℕ}
    (m : marks ≡ (book_at_end b records).marks) (c : received ≡ (book_at_end b records).received) where
  book_now : with_heard b marks received ≡ book_at_end b records
  book_now = ap₂ (with_heard b) m c ∙ sym (at_end_heard b records)

  -- one record more
  module _ (frame : List ℕ) (original : ℕ) where
    abbrev with_it : List Record
    with_it = records ++ (record { frame = frame; original = original } ∷ [])

    book_next : book_at_end b with_it ≡ book_by (with_heard b marks received) frame original
    book_next =
        at_end_snoc b records (record { frame = frame; original = original })
        ∙ ap (λ (x : Book). book_by x frame original) (sym book_now)

    marks_turn : {after : List ℕ} → after ≡ marks_by (with_heard b marks received) frame original → after ≡ (book_at_end b with_it).marks
    marks_turn e = e ∙ sym (ap (λ (x : Book). x.marks) book_next)

    counters_turn : {after : List ℕ} → after ≡ received_by (with_heard b marks received) frame original → after ≡ (book_at_end b with_it).received
    counters_turn e = e ∙ sym (ap (λ (x : Book). x.received) book_next)

-- ---- the lines

lines_snoc : (b : Book) (records : List Record) (r : Record)
    → record_lines b (records ++ (r ∷ [])) ≡ record_lines b records ++ (record_line (book_at_end b records) r.frame r.original ∷ [])
lines_snoc b [] r = refl
lines_snoc b (x ∷ rs) r = ap (λ (l : List Line). record_line b x.frame x.original ∷ l) (lines_snoc (book_by b x.frame x.original) rs r)

lines_length : (b : Book) (records : List Record) → length (record_lines b records) ≡ length records
lines_length b [] = refl
lines_length b (x ∷ rs) = ap suc (lines_length (book_by b x.frame x.original) rs)

numbered_snoc : (n : ℕ) (lines : List Line) (l : Line) → numbered n (lines ++ (l ∷ [])) ≡ numbered n lines ++ (numbered_line (n + length lines) l ∷ [])
numbered_snoc n [] l = let e : n + 0 ≡ n = omega arith in rw e
numbered_snoc n (x ∷ lines) l =
    let e : n + suc (length lines) ≡ suc n + length lines = omega arith in
    rw e (ap (λ (s : List (List ℕ)). numbered_line n x ∷ s) (numbered_snoc (suc n) lines l))

after_snoc : (room : ℕ) (w : List ℕ) (lines : List (List ℕ)) (l : List ℕ) → after_lines room w (lines ++ (l ∷ [])) ≡ after_line room
    (after_lines room w lines) l
after_snoc room w [] l = refl
after_snoc room w (x ∷ lines) l = after_snoc room (after_line room w x) lines l

-- what waits behind one record more
waits_snoc : (room : ℕ) (b : Book) (records : List Record) (r : Record)
    → after_lines room [] (numbered 1 (record_lines b (records ++ (r ∷ []))))
    ≡ after_line room (after_lines room [] (numbered 1 (record_lines b records)))
    (numbered_line (1 + length records) (record_line (book_at_end b records) r.frame r.original))
waits_snoc room b records r =
    ap (λ (l : List Line). after_lines room [] (numbered 1 l)) (lines_snoc b records r)
    ∙ ap (after_lines room []) (numbered_snoc 1 (record_lines b records) (record_line (book_at_end b records) r.frame r.original))
    ∙ after_snoc room [] (numbered 1 (record_lines b records)) _
    ∙ rw (lines_length b records)

-- a line put behind those that wait, and the room made
put_waits : {out new line : List ℕ} {size r left room : ℕ} → PutAt out size line new r → size ≤ length out → r ≤ length new → length new ≡ room
    → left ≡ cond (leb (r + numbered_most) (length new)) r 0 → take left new ≡ after_line room (take size out) line
put_waits {out} {new} {line} {size} {r} {left} {room} p h w l e = rw (e, l, sym n) (by (leb (r + numbered_most) room))
  where
    t : take r new ≡ take size out ++ line
    t = ap₂ (λ (n : ℕ) (s : List ℕ). take n s) p.place p.content ∙ take_written size line out h

    n : r ≡ length (take size out ++ line)
    n = sym (sym (ap length t) ∙ length-take-le r new w)

    by : (c : Bool) → take (cond c r 0) new ≡ cond c (take size out ++ line) []
    by true = t
    by false = refl

-- ---- what each turn keeps

-- the records before this number have been judged, these bytes are left, and their lines leave this waiting
pub record Progress (order : Order) (b : Book) (first marks received : List ℕ) (number : ℕ) (left : List ℕ) (room : ℕ) (text : List ℕ) : Type 0 where
  pub records : List Record
  pub counted : number ≡ 1 + length records
  pub judging : Judging order first records left
  pub rows_heard : marks ≡ (book_at_end b records).marks
  pub counters : received ≡ (book_at_end b records).received
  pub waits : text ≡ after_lines room [] (numbered 1 (record_lines b records))

pub progress_start : (order : Order) (b : Book) (first : List ℕ) (room : ℕ) → Progress order b first b.marks b.received 1 first room []
progress_start order b first room =
    record { records = []; counted = refl; judging = judging_start order first; rows_heard = refl; counters = refl; waits = refl }

module _ {order : Order} {b : Book} {first marks received left : List ℕ} {number room : ℕ} {text : List ℕ}
    (p : Progress order b first marks received number left room text) where
  pub progress_turn : {after : List ℕ} {at end original until : ℕ} {heard counters out new : List ℕ} {size r waiting : ℕ}
      → RecordThere order left after at end original until
      → PutAt out size (numbered_line number (record_line (with_heard b marks received) (window after at end) original)) new r
      → heard ≡ marks_by (with_heard b marks received) (window after at end) original
      → counters ≡ received_by (with_heard b marks received) (window after at end) original
      → take size out ≡ text → size ≤ length out → r ≤ length new → length new ≡ room → waiting ≡ cond (leb (r + numbered_most) (length new)) r 0
      → Progress order b first heard counters (number + 1) (window after end until) room (take waiting new)
  progress_turn {after} {at} {end} {original} {until} t l d e x h w z m =
      let c = p.counted in
      record {
        records = p.records ++ (record { frame = window after at end; original = original } ∷ []);
        counted = simp length-append (omega arith);
        judging = judging_turn p.judging t;
        rows_heard = marks_turn b p.records p.rows_heard p.counters (window after at end) original d;
        counters = counters_turn b p.records p.rows_heard p.counters (window after at end) original e;
        waits =
            put_waits l h w z m
            ∙ ap₂ (after_line room) (x ∙ p.waits)
            (ap₂ (λ (i : ℕ) (y : Book). numbered_line i (record_line y (window after at end) original)) c (book_now b p.records p.rows_heard p.counters))
            ∙ sym (waits_snoc room b p.records (record { frame = window after at end; original = original }));
      }

  abbrev pub judged : Judged order b first marks received
  judged = record { records = p.records; left = left; so_far = p.judging; rows_heard = p.rows_heard; counters = p.counters }

pub record Looping (order : Order) (b : Book) (first : List ℕ) (room-size out_size : ℕ) (room marks received out : List ℕ)
    (size number from have : ℕ) : Type 0 where
  pub ordered : from ≤ have
  pub within : have ≤ length room
  pub long : length room ≡ room-size
  pub marks_long : length marks ≡ length b.marks
  pub counters_long : length received ≡ length b.received
  pub out_long : length out ≡ out_size
  pub waiting : size + numbered_most ≤ out_size
  pub progress : Progress order b first marks received number (window room from have) out_size (take size out)

-- ---- where it ended

-- what comes next is no record
abbrev pub NoRecord : Next → Type 0
NoRecord (ARecord _ _ _) = ⊥
NoRecord AtEnd = Unit {0}
NoRecord Cut = Unit {0}
NoRecord Failed = Unit {0}

pub no_record : (next : Next) → ((frame : Window) (original until : ℕ) → next ≡ ARecord frame original until → ⊥) → NoRecord next
no_record (ARecord frame original until) n = n frame original until refl
no_record AtEnd n = tt
no_record Cut n = tt
no_record Failed n = tt

last_by : (order : Order) (left room : List ℕ) (number : ℕ) (next : Next) → NoRecord next → NextIs order left room next → Last order left number (end_line next)
last_by order left room number (ARecord _ _ _) h t = absurd h
last_by order left room number AtEnd h t = file_ends t
last_by order left room number Cut h t = file_cut t.read (ap (λ (x : Records). x.whole) t.cut)
last_by order left room number Failed h t = file_cut t.read t.whole_none

module _ {order : Order} {b : Book} {first : List ℕ} {room-size out_size : ℕ} {room marks received out : List ℕ} {size number from have : ℕ}
    (l : Looping order b first room-size out_size room marks received out size number from have) where
  -- before the next record, with the last line behind those that wait
  pub ended_by_lem : (after : List ℕ) (next : Next) {new : List ℕ} {r : ℕ} → NoRecord next → NextIs order (window room from have) after next
      → PutAt out size (end_line next) new r → r ≤ length new → length new ≡ out_size → Waited order b first marks received new r
  ended_by_lem after next {new} {r} h t p w z =
      let q = l.progress in
      let o = l.out_long in
      let m = l.waiting in
      record {
        judged = judged q;
        within = w;
        end = end_line next;
        last = last_by order (window room from have) after (length q.records) next h t;
        text =
            ap₂ (λ (n : ℕ) (s : List ℕ). take n s) p.place p.content
            ∙ take_written size (end_line next) out (omega arith)
            ∙ rw z (ap (λ (s : List ℕ). s ++ end_line next) q.waits);
      }

-- where no number is left
pub ended_numbers : {order : Order} {b : Book} {first marks received left out : List ℕ} {number out_size size : ℕ}
    → Progress order b first marks received number left out_size (take size out) → length out ≡ out_size → size ≤ length out → number ≡ 2 ^ 64
    → Waited order b first marks received out size
ended_numbers {b = b} p l w n =
    let c = p.counted in
    record {
      judged = judged p;
      within = w;
      end = [];
      last = no_number (omega arith);
      text = p.waits ∙ sym (append-nil _) ∙ ap (λ (n : ℕ). after_lines n [] (numbered 1 (record_lines b p.records)) ++ []) (sym l);
    }

-- ---- the whole recording: its header, and then what the loop judged

pub recorded : {order : Order} {b : Book} {room marks received : List ℕ} {start held : ℕ} → CaptureThere room order start held
    → Judged order b (window room start held) marks received → Recorded b marks received
recorded {order} {b} {room} {marks} {received} {start} {held} c j =
    let header = window room 0 file_header_size in
    let first = window room start held in
    let read = j.so_far.read in
    let o = c.ordered in
    let w = c.within in
    let f = c.behind_header in
    let size : length header ≡ file_header_size = window_size_lem room 0 file_header_size (omega arith) (omega arith) in
    record {
      front = header ++ (first ++ read);
      order = order;
      records = j.records;
      left = j.left;
      so_far = λ rest.
          ap records_of (append_assoc header (first ++ read) rest ∙ ap (λ (s : List ℕ). header ++ s) (append_assoc first read rest))
          ∙ records_say.behind_header order header (first ++ (read ++ rest)) size c.header_says
          ∙ ap Some (j.so_far.goes_on rest);
      rows_heard = j.rows_heard;
      counters = j.counters;
    }
