-- What a text that is read without a refusal comes to: its entries lead from the opening to the closing.
use Rattle.std.proofs.Common.{◌≡◌, ℕ, ◌+◌, ◌≤◌, Bool, true, false, cond, ◌&&◌, eqb, List, [], ◌∷◌, length, ℤ, pos, ◌+ℤ◌, Some, None, Ok, Err, Option, Result, sym, refl, ap, ◌∙◌, subst, arith}
use Rattle.std.specs.List.{AllByRecursion}
use Rattle.std.proofs.lemmas.Int.{ints}
use Rattle.std.proofs.lemmas.Bool.{and_parts, le-leb}
use Rattle.domain.specs.declared.entry.Entry.{Entry}
use Rattle.domain.specs.declared.refusal.Refusal.{Refusal}
use Rattle.domain.specs.declared.refusal.Refusal.TheVariants.{EndsEarly}
use Rattle.domain.specs.declared.refusal.Refused.{Refused}
use Rattle.domain.specs.Refusing.{refused_at}
use Rattle.source.specs.declared.Head.{Head}
use Rattle.source.specs.Statement.{Statement, Lawful, total}
use Rattle.text.specs.Left.{lines_left}
use Rattle.text.specs.Lines.{split, numbered, lines_from, content_of}
use Rattle.text.specs.Scanning.{scan_of, scan_from}
use Rattle.text.proofs.Inside.{AllInside, lines_inside}
use Rattle.domain.specs.declared.account.Account.{Account}
use Rattle.readers.specs.declared.passage.TheConstants.{LONGEST}
use Rattle.readers.specs.declared.Reader.{Reader}
use Rattle.readers.specs.Entries.{with_entry, entries_of, entries_in}
use Rattle.readers.specs.Within.{Within}
use Rattle.readers.specs.Tallies.{Closes, sum_with, count_with}
use Rattle.domain.specs.Accounts.{account_of}
use Rattle.readers.specs.Whole.{statement_of, read_of, meaning_of, Made}

sums : (o : Option Entry) (z : ℤ) (es : List Entry) → sum_with z o +ℤ total es ≡ z +ℤ total (with_entry o es)
sums None z es = refl
sums (Some e) z es = omega (arith, ints)

counts : (o : Option Entry) (n : ℕ) (es : List Entry) → count_with n o + length es ≡ n + length (with_entry o es)
counts None n es = refl
counts (Some e) n es = omega arith

-- a format of which a step adds just the entry that its line states
module _ {S : Type 0} (step : S → List ℕ → Result S Refusal) (complete : S → Bool) (stated : ℕ × List ℕ → List (ℕ × List ℕ) → Option Entry) (Tallies : ℤ → ℕ → S → Type 0)
    (adds : (z : ℤ) (n : ℕ) (s u : S) (line : ℕ × List ℕ) (behind : List (ℕ × List ℕ)) → Tallies z n s → step s (content_of line.1) ≡ Ok u → Tallies (sum_with z (stated line behind)) (count_with n (stated line behind)) u) where
  -- the end of lines, before which entries of this sum and number have come
  abbrev pub Ends : ℤ → ℕ → S → Type 0
  Ends z n end = Tallies z n end × (complete end ≡ true)

  finished : (size at : ℕ) (z : ℤ) (n : ℕ) (s end : S) (b : Bool) → complete s && eqb at size ≡ b → Tallies z n s → ◌≡◌ {A = Result S Refused} (cond b (Ok s) (Err (refused_at EndsEarly size))) (Ok end) → Ends z n end
  finished size at z n s end true q t e = let same : s ≡ end = cc in subst (Ends z n) same (t, (and_parts (complete s) (eqb at size) q).0)
  finished size at z n s end false q t e = absurd (let f : ◌≡◌ {A = ℕ} 0 1 = cc in omega arith)

  stepped : (size at : ℕ) (z : ℤ) (n : ℕ) (s end : S) (l : List ℕ) (ls : List (List ℕ)) →
      ((y : ℤ) (k : ℕ) (u : S) → Tallies y k u → scan_of step complete size (at + length l + 1) u ls ≡ Ok end →
      Ends (y +ℤ total (entries_of stated (numbered (at + length l + 1) ls))) (k + length (entries_of stated (numbered (at + length l + 1) ls))) end) →
      (r : Result S Refusal) → step s (content_of l) ≡ r → Tallies z n s →
      ◌≡◌ {A = Result S Refused} (elim r [ Ok u ↦ scan_of step complete size (at + length l + 1) u ls | Err why ↦ Err (refused_at why at) ]) (Ok end) →
      Ends (z +ℤ total (entries_of stated (numbered at (l ∷ ls)))) (n + length (entries_of stated (numbered at (l ∷ ls)))) end
  stepped size at z n s end l ls rest (Ok u) q t e =
      let behind : List (ℕ × List ℕ) = numbered (at + length l + 1) ls in
      let o : Option Entry = stated (at, l) behind in
      let i = rest (sum_with z o) (count_with n o) u (adds z n s u (at, l) behind t q) e in
      rw (sums o z (entries_of stated behind), counts o n (entries_of stated behind)) at i
  stepped size at z n s end l ls rest (Err why) q t e = absurd (let f : ◌≡◌ {A = ℕ} 0 1 = cc in omega arith)

  scanned : (size at : ℕ) (z : ℤ) (n : ℕ) (s end : S) (ls : List (List ℕ)) → Tallies z n s → scan_of step complete size at s ls ≡ Ok end →
      Ends (z +ℤ total (entries_of stated (numbered at ls))) (n + length (entries_of stated (numbered at ls))) end
  scanned size at z n s end [] t e =
      let y : z +ℤ pos 0 ≡ z = omega (arith, ints) in
      let k : n + 0 ≡ n = omega arith in
      rw (y, k) (finished size at z n s end (complete s && eqb at size) refl t e)
  scanned size at z n s end (l ∷ ls) t e = stepped size at z n s end l ls (λ y k u. scanned size (at + length l + 1) y k u end ls) (step s (content_of l)) refl t e

  pub text_ends : (text : List ℕ) (s end : S) → Tallies (pos 0) 0 s → scan_from step complete text 0 s ≡ Ok end → Ends (total (entries_in stated text)) (length (entries_in stated text)) end
  unfolding entries_in
  text_ends text s end t e =
      let es : List Entry = entries_of stated (numbered 0 (split text)) in
      let y : pos 0 +ℤ total es ≡ total es = omega (arith, ints) in
      let k : 0 + length es ≡ length es = omega arith in
      let i = scanned (length text) 0 (pos 0) 0 s end (split text) t e in
      rw (y, k) at i

-- the lines of a text that is short enough
lines_after : (from at : ℕ) (ls : List (List ℕ)) → from ≤ at → AllByRecursion (λ m. from ≤ m.0) (numbered at ls)
lines_after from at [] h = tt
lines_after from at (l ∷ ls) h = (h, lines_after from (at + length l + 1) ls (omega arith))

lines_within : (m n at : ℕ) (ls : List (List ℕ)) → m ≤ n → AllInside m (numbered at ls) → Within n (numbered at ls)
lines_within m n at [] h a = tt
lines_within m n at (l ∷ ls) h a = (omega (arith, h, a.0), (lines_after at (at + length l + 1) ls (omega arith), lines_within m n (at + length l + 1) ls h a.1))

-- a format that meets its laws, and a text that it has read
module _ {S : Type 0} (begun : Account → S) (stepped : S → List ℕ → Result S Refusal) (complete : S → Bool) (said : S → Head) (stated : Account → ℕ × List ℕ → List (ℕ × List ℕ) → Option Entry) (Tallies : Account → ℤ → ℕ → S → Type 0)
    (starts : (account : Account) → Tallies account (pos 0) 0 (begun account))
    (adds : (account : Account) (z : ℤ) (n : ℕ) (s u : S) (line : ℕ × List ℕ) (behind : List (ℕ × List ℕ)) → Tallies account z n s → stepped s (content_of line.1) ≡ Ok u →
    Tallies account (sum_with z (stated account line behind)) (count_with n (stated account line behind)) u)
    (closes : (account : Account) (z : ℤ) (n : ℕ) (s : S) → Tallies account z n s → complete s ≡ true → Closes z n (said s))
    (text code : List ℕ) (digits : ℕ) (account : Account) (end : S) (known : Ok account ≡ account_of code digits) (short : length text ≤ LONGEST) (scanned_to : Ok end ≡ scan_from stepped complete text 0 (begun account)) where
  abbrev here : List Entry
  here = entries_in (stated account) text

  closed : Closes (total here) (length here) (said end)
  closed = let e = text_ends stepped complete (stated account) (Tallies account) (adds account) text (begun account) end (starts account) (sym scanned_to) in closes account _ _ end e.0 e.1

  read_ok : read_of begun stepped complete said stated text code digits ≡ Ok (statement_of (said end) here)
  unfolding read_of
  read_ok =
      let fits = le-leb _ _ short in
      rw (← known, fits, ← scanned_to)

  -- the reader that is made has all lines left
  pub made : {F : Type 0} (r : Reader F) → lines_left r.lines ≡ lines_from 0 text → r.account ≡ account → r.head ≡ said end → Made (read_of begun stepped complete said stated text code digits) stated (Ok r)
  unfolding meaning_of entries_in
  made r t a h =
      let m : meaning_of stated r ≡ statement_of (said end) here = rw (t, a, h) in (
        read_ok ∙ sym (ap Ok m),
        record {
          short = rw t (lines_within (length text) LONGEST 0 (split text) short (lines_inside text 0));
          counted = ap (λ (x : Head). x.count) h ∙ closed.counted ∙ sym (ap (λ (s : Statement). length s.remaining) m);
          lawful = subst Lawful (sym m) (record { numbered = closed.numbered; balanced = closed.balanced; few = closed.few });
        },
      )
