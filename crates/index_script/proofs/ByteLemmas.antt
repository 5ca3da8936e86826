-- Known bytes, lines, and what was taken of an input.
use Rattle.std.proofs.Common.{◌≡◌, ◌≢◌, ℕ, ◌+◌, ◌-◌, List, [], ◌∷◌, ◌++◌, length, take, drop, refl, sym, ap, ◌∙◌, subst, arith, append_assoc, append-nil, inl, inr, Option}
use Rattle.std.proofs.lemmas.List.{take_all, length-drop}
use Rattle.std.proofs.Math.Seq.{take-add}
use Rattle.std.specs.Io.KnownBytes.{Consumes, Appends, IsAtEnd}
use Rattle.std.specs.List.{AllByRecursion}
use Rattle.std.proofs.KnownBytes.{Appends-trans, Appends-nil, Consumes-nil, Consumes-trans}
use Rattle.index_script.specs.Lines.{Lacks, joined_lines, Begins, ended, kept}
use Rattle.index_script.specs.Script.{Script, ActsOnLine, Outputs}
use Rattle.index_script.specs.Runs.{Answered, Breaks, RunsToEnd, StopsWriting, StopsForMemory}
use Rattle.index_script.specs.Inside.{Answers, Falters, Taken, Feeds, BreaksOff, FeedBreaks, StopsShort, FeedStops, TakesAllRead, Finishes}
use Rattle.index_script.proofs.NumberLemmas.{kept_some}

-- the next bytes are written behind those before them
pub Appends-next : (a b c : Option (List ℕ)) (bytes : List ℕ) (i n : ℕ) → Appends a b (take i bytes) → Appends b c (take n (take (length bytes - i) (drop i bytes))) → Appends a c (take (i + n) bytes)
Appends-next a b c bytes i n p q =
    let rest : take (length bytes - i) (drop i bytes) ≡ drop i bytes = take_all (length bytes - i) (drop i bytes) (omega (arith, length-drop i bytes)) in
    subst (Appends a c) (sym (take-add i n bytes)) (Appends-trans a b c (take i bytes) (take n (drop i bytes)) p (subst (λ l. Appends b c (take n l)) rest q))

-- lines: more bytes behind them, and one line more
joined-more : (lines : List (List ℕ)) (rest more : List ℕ) → joined_lines lines rest ++ more ≡ joined_lines lines (rest ++ more)
joined-more [] rest more = refl
joined-more (l ∷ ls) rest more = append_assoc l (10 ∷ joined_lines ls rest) more ∙ ap (λ r. l ++ 10 ∷ r) (joined-more ls rest more)

joined-line : (lines : List (List ℕ)) (line rest : List ℕ) → joined_lines lines (line ++ 10 ∷ rest) ≡ joined_lines (lines ++ line ∷ []) rest
joined-line [] line rest = refl
joined-line (l ∷ ls) line rest = ap (λ r. l ++ 10 ∷ r) (joined-line ls line rest)

Lacks-append : (c : ℕ) (a b : List ℕ) → Lacks c a → Lacks c b → Lacks c (a ++ b)
Lacks-append c [] b p q = q
Lacks-append c (x ∷ a) b p q = (p.0, Lacks-append c a b p.1 q)

unbroken-push : (lines : List (List ℕ)) (line : List ℕ) → AllByRecursion (Lacks 10) lines → Lacks 10 line → AllByRecursion (Lacks 10) (lines ++ line ∷ [])
unbroken-push [] line p q = (q, tt)
unbroken-push (l ∷ ls) line p q = (p.0, unbroken-push ls line p.1 q)

Begins-more : (input : List ℕ) (lines : List (List ℕ)) (rest more : List ℕ) → Begins input lines rest → Begins (input ++ more) lines (rest ++ more)
Begins-more input lines rest more b = record {
  whole = ap (λ i. i ++ more) b.whole ∙ joined-more lines rest more;
  unbroken = b.unbroken;
}

-- the piece: where its next line ends
pub regroup : (piece done rest part behind : List ℕ) → piece ≡ done ++ rest → rest ≡ part ++ 10 ∷ behind → piece ≡ (done ++ (part ++ 10 ∷ [])) ++ behind
regroup piece done rest part behind p q =
    p ∙ ap (λ r. done ++ r) (q ∙ sym (append_assoc part (10 ∷ []) behind)) ∙ sym (append_assoc done (part ++ 10 ∷ []) behind)

ended-more : (lines : List (List ℕ)) (line : List ℕ) → line ≢ [] → lines ++ line ∷ [] ≡ ended lines line
ended-more lines [] e = absurd (e refl)
ended-more lines (b ∷ bs) e = refl

module _ (width : ℕ) where
  -- one line more has its reply behind the others
  Outputs-push : (old mid new : Script) (lines : List (List ℕ)) (output line text : List ℕ) → Outputs width old lines output mid → ActsOnLine width mid line text new → Outputs width old (lines ++ line ∷ []) (output ++ text) new
  Outputs-push old mid new [] output line text h acts =
      (new, text, [], ap (λ o. o ++ text) h.0 ∙ sym (append-nil text), subst (λ m. ActsOnLine width m line text new) h.1 acts, (refl, refl))
  Outputs-push old mid new (l ∷ lines) output line text h acts =
      (h.0, h.1, h.2 ++ text, ap (λ o. o ++ text) h.3 ∙ append_assoc h.1 h.2 text, h.4, Outputs-push h.0 mid new lines h.2 line text h.5 acts)

  Answered-push : (old mid new : Script) (lines : List (List ℕ)) (line : List ℕ) (w w' w'' : Option (List ℕ)) → Answered width old lines w w' mid → Answers width mid line w' w'' new → Answered width old (lines ++ line ∷ []) w w'' new
  Answered-push old mid new lines line w w' w'' a b = record {
    output = a.output ++ b.text;
    outputs = Outputs-push old mid new lines a.output line b.text a.outputs b.acts;
    written = Appends-trans w w' w'' a.output b.text a.written b.written;
  }

  -- nothing more was written
  Answered-kept : (old now : Script) (lines : List (List ℕ)) (w w' w'' : Option (List ℕ)) → Answered width old lines w w' now → Appends w' w'' [] → Answered width old lines w w'' now
  Answered-kept old now lines w w' w'' a kept = record {
    output = a.output;
    outputs = a.outputs;
    written = subst (Appends w w'') (append-nil a.output) (Appends-trans w w' w'' a.output [] a.written kept);
  }

  Breaks-push : (old mid : Script) (lines : List (List ℕ)) (line : List ℕ) (w w' w'' : Option (List ℕ)) → Answered width old lines w w' mid → Falters width mid line w' w'' → Breaks width old lines line w w''
  Breaks-push old mid lines line w w' w'' a f = record {
    mid = mid;
    new = f.new;
    output = a.output;
    text = f.text;
    n = f.n;
    outputs = a.outputs;
    acts = f.acts;
    written = Appends-trans w w' w'' a.output (take f.n f.text) a.written f.written;
  }

  -- the begun line goes on
  Taken-part : (start : Script) (input part : List ℕ) (w w' begun begun' : Option (List ℕ)) (now : Script) → Taken width start input w w' begun now → Lacks 10 part → ((line : List ℕ) → begun ≡ kept line → begun' ≡ kept (line ++ part)) → Taken width start (input ++ part) w w' begun' now
  Taken-part start input part w w' begun begun' now t lacks grown = record {
    lines = t.lines;
    line = t.line ++ part;
    splits = record {
      begins = Begins-more input t.lines t.line part t.splits.begins;
      rest = Lacks-append 10 t.line part t.splits.rest lacks;
    };
    keeps = grown t.line t.keeps;
    answered = t.answered;
  }

  -- the begun line ends, and is answered
  Taken-line : (start : Script) (input part : List ℕ) (w w' w'' begun begun' : Option (List ℕ)) (old new : Script) → Taken width start input w w' begun old → Lacks 10 part → ((line : List ℕ) → begun ≡ kept line → Answers width old (line ++ part) w' w'' new) → begun' ≡ kept [] → Taken width start (input ++ (part ++ 10 ∷ [])) w w'' begun' new
  Taken-line start input part w w' w'' begun begun' old new t lacks answers cleared = record {
    lines = t.lines ++ (t.line ++ part) ∷ [];
    line = [];
    splits = record {
      begins = record {
        whole =
            (Begins-more input t.lines t.line (part ++ 10 ∷ []) t.splits.begins).whole
            ∙ ap (joined_lines t.lines) (sym (append_assoc t.line part (10 ∷ [])))
            ∙ joined-line t.lines (t.line ++ part) [];
        unbroken = unbroken-push t.lines (t.line ++ part) t.splits.begins.unbroken (Lacks-append 10 t.line part t.splits.rest lacks);
      };
      rest = tt;
    };
    keeps = cleared;
    answered = Answered-push start old new t.lines (t.line ++ part) w w' w'' t.answered (answers t.line t.keeps);
  }

  -- the begun line ends, and its reply isn't written whole
  Taken-breaks : (start : Script) (input part behind : List ℕ) (w w' w'' begun : Option (List ℕ)) (old : Script) → Taken width start input w w' begun old → Lacks 10 part → ((line : List ℕ) → begun ≡ kept line → Falters width old (line ++ part) w' w'') → BreaksOff width start (input ++ (part ++ 10 ∷ behind)) w w''
  Taken-breaks start input part behind w w' w'' begun old t lacks falters = record {
    lines = t.lines;
    rest = t.line ++ (part ++ 10 ∷ behind);
    line = t.line ++ part;
    begins = Begins-more input t.lines t.line (part ++ 10 ∷ behind) t.splits.begins;
    next = (Lacks-append 10 t.line part t.splits.rest lacks, inr (behind, sym (append_assoc t.line part (10 ∷ behind))));
    breaks = Breaks-push start old t.lines (t.line ++ part) w w' w'' t.answered (falters t.line t.keeps);
  }

  Taken-stops : (start : Script) (input more : List ℕ) (w w' w'' begun : Option (List ℕ)) (old : Script) → Taken width start input w w' begun old → Appends w' w'' [] → StopsShort width start (input ++ more) w w''
  Taken-stops start input more w w' w'' begun old t kept = record {
    lines = t.lines;
    rest = t.line ++ more;
    new = old;
    begins = Begins-more input t.lines t.line more t.splits.begins;
    answered = Answered-kept start old t.lines w w' w'' t.answered kept;
  }

  pub Feeds-line : (old mid new : Script) (first begun begun' w w' w'' : Option (List ℕ)) (done part : List ℕ) → Feeds width old first done w w' begun mid → Lacks 10 part → ((line : List ℕ) → begun ≡ kept line → Answers width mid (line ++ part) w' w'' new) → begun' ≡ kept [] → Feeds width old first (done ++ (part ++ 10 ∷ [])) w w'' begun' new
  Feeds-line old mid new first begun begun' w w' w'' done part fed lacks answers cleared = λ start input before t.
      subst (λ i. Taken width start i before w'' begun' new) (append_assoc input done (part ++ 10 ∷ []))
      (Taken-line start (input ++ done) part before w' w'' begun begun' mid new (fed start input before t) lacks answers cleared)

  pub Feeds-part : (old mid : Script) (first begun begun' w w' : Option (List ℕ)) (piece done part : List ℕ) → Feeds width old first done w w' begun mid → piece ≡ done ++ part → Lacks 10 part → ((line : List ℕ) → begun ≡ kept line → begun' ≡ kept (line ++ part)) → Feeds width old first piece w w' begun' mid
  Feeds-part old mid first begun begun' w w' piece done part fed is lacks grown = λ start input before t.
      subst (λ i. Taken width start i before w' begun' mid) (append_assoc input done part ∙ ap (λ p. input ++ p) (sym is))
      (Taken-part start (input ++ done) part before w' begun begun' mid (fed start input before t) lacks grown)

  pub Feeds-breaks : (old mid : Script) (first begun w w' w'' : Option (List ℕ)) (piece done rest part behind : List ℕ) → Feeds width old first done w w' begun mid → piece ≡ done ++ rest → rest ≡ part ++ 10 ∷ behind → Lacks 10 part → ((line : List ℕ) → begun ≡ kept line → Falters width mid (line ++ part) w' w'') → FeedBreaks width old first piece w w''
  Feeds-breaks old mid first begun w w' w'' piece done rest part behind fed p q lacks falters = λ start input before t.
      subst (λ i. BreaksOff width start i before w'') (append_assoc input done (part ++ 10 ∷ behind) ∙ ap (λ r. input ++ r) (sym (p ∙ ap (λ r. done ++ r) q)))
      (Taken-breaks start (input ++ done) part behind before w' w'' begun mid (fed start input before t) lacks falters)

  pub Feeds-stops : (old mid : Script) (first begun w w' w'' : Option (List ℕ)) (piece done rest : List ℕ) → Feeds width old first done w w' begun mid → piece ≡ done ++ rest → Appends w' w'' [] → FeedStops width old first piece w w''
  Feeds-stops old mid first begun w w' w'' piece done rest fed p kept = λ start input before t.
      subst (λ i. StopsShort width start i before w'') (append_assoc input done rest ∙ ap (λ r. input ++ r) (sym p))
      (Taken-stops start (input ++ done) rest before w' w'' begun mid (fed start input before t) kept)

  module _ (start now : Script) (r r' r'' w w' begun : Option (List ℕ)) (s : TakesAllRead width start r r' w w' begun now) where
    at_end : Consumes r' r'' [] → Consumes r r'' s.input
    at_end none = subst (Consumes r r'') (append-nil s.input) (Consumes-trans r r' r'' s.input [] s.read none)

    same-line : begun ≡ kept [] → s.taken.line ≡ []
    same-line e = sym (kept_some [] s.taken.line (sym e ∙ s.taken.keeps)).0

    -- the input ends behind an LF, or with a line that is answered
    pub serves-ends : (w'' : Option (List ℕ)) (new : Script) → Consumes r' r'' [] → IsAtEnd r'' → Finishes width now begun w' w'' new → RunsToEnd width start r r'' w w''
    serves-ends w'' new none end (inl f) = record {
      input = s.input;
      lines = s.taken.lines;
      new = now;
      read = at_end none;
      at_end = end;
      are_lines = (s.taken.lines, s.taken.line, s.taken.splits, ap (ended s.taken.lines) (sym (same-line f.0)));
      answered = subst (λ v. Answered width start s.taken.lines w v now) (sym f.2) s.taken.answered;
    }
    serves-ends w'' new none end (inr f) =
        let g = f s.taken.line s.taken.keeps in
        record {
          input = s.input;
          lines = s.taken.lines ++ s.taken.line ∷ [];
          new = new;
          read = at_end none;
          at_end = end;
          are_lines = (s.taken.lines, s.taken.line, s.taken.splits, ended-more s.taken.lines s.taken.line g.0);
          answered = Answered-push start now new s.taken.lines s.taken.line w w' w'' s.taken.answered g.1;
        }

    -- the last line falters
    pub serves-falters : (w'' : Option (List ℕ)) → Consumes r' r'' [] → ((line : List ℕ) → begun ≡ kept line → Falters width now line w' w'') → StopsWriting width start r r'' w w''
    serves-falters w'' none falters = record {
      input = s.input;
      lines = s.taken.lines;
      rest = s.taken.line;
      line = s.taken.line;
      read = at_end none;
      begins = s.taken.splits.begins;
      next = (s.taken.splits.rest, inl refl);
      breaks = Breaks-push start now s.taken.lines s.taken.line w w' w'' s.taken.answered (falters s.taken.line s.taken.keeps);
    }

    -- a piece is taken
    pub serves-piece : (piece : List ℕ) (w'' begun' : Option (List ℕ)) (new : Script) → Consumes r' r'' piece → Feeds width now begun piece w' w'' begun' new → TakesAllRead width start r r'' w w'' begun' new
    serves-piece piece w'' begun' new read fed = record {
      input = s.input ++ piece;
      read = Consumes-trans r r' r'' s.input piece s.read read;
      taken = fed start s.input w s.taken;
    }

    pub serves-breaks : (piece : List ℕ) (w'' : Option (List ℕ)) → Consumes r' r'' piece → FeedBreaks width now begun piece w' w'' → StopsWriting width start r r'' w w''
    serves-breaks piece w'' read fed =
        let b = fed start s.input w s.taken in
        record {
          input = s.input ++ piece;
          lines = b.lines;
          rest = b.rest;
          line = b.line;
          read = Consumes-trans r r' r'' s.input piece s.read read;
          begins = b.begins;
          next = b.next;
          breaks = b.breaks;
        }

    pub serves-runs_out : (piece : List ℕ) (w'' : Option (List ℕ)) → Consumes r' r'' piece → FeedStops width now begun piece w' w'' → StopsForMemory width start r r'' w w''
    serves-runs_out piece w'' read fed =
        let b = fed start s.input w s.taken in
        record {
          input = s.input ++ piece;
          lines = b.lines;
          rest = b.rest;
          new = b.new;
          read = Consumes-trans r r' r'' s.input piece s.read read;
          begins = b.begins;
          answered = b.answered;
        }

  -- nothing was read
  pub stops-at_once : (start : Script) (r w : Option (List ℕ)) → StopsForMemory width start r r w w
  stops-at_once start r w = record {
    input = [];
    lines = [];
    rest = [];
    new = start;
    read = Consumes-nil r;
    begins = record { whole = refl; unbroken = tt };
    answered = record { output = []; outputs = (refl, refl); written = Appends-nil w };
  }
