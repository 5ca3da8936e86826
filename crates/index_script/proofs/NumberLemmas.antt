-- Words and numbers.
use Rattle.std.proofs.lemmas.Bool.{false≢true}
use Rattle.std.proofs.lemmas.Bool.Decides.{nat_tests}
use Rattle.std.proofs.Common.{◌≡◌, ◌≢◌, ◌==◌, ◌⊎◌, true, false, ℕ, zero, suc, ◌<◌, ◌≤◌, ◌^◌, List, [], ◌∷◌, ◌++◌, length, get_or, refl, sym, ap, ◌∙◌, subst, length-append, arith, inl, inr, decimal, rules, Ok, Err, Result}
use Rattle.std.proofs.lemmas.Fmt.{decimal_nonempty, decimal_digit, first_decimal, decimal-digits_value, parse-decimal}
use Rattle.std.proofs.lemmas.Str.Parse.{numerals_by_value, tells_digits, without_leading_plus_none}
use Rattle.std.specs.Str.Parse.{ParsesUnsigned, AllDigits, digits_value}
use Rattle.std.specs.Prelude.{codes, Some, None, nat_le, cond}
use Rattle.std.specs.Str.{IsUtf8}
use Rattle.index_script.specs.Lines.{Lacks, kept}
use Rattle.std.specs.Prelude.{MatchOption, Option, IfSome, IfNone}
use Rattle.std.specs.Borrow.{Bor}
use Rattle.std.specs.List.{AllByRecursion}
use Rattle.index_script.specs.Requests.{IsNumber, HasFirst, AreTwo, MissesCommand, Command, Insert, Upsert, Remove, Delete, Clear, Discard, Commit, Open, Close, Get, Has, Range, Near, Audit, Len, Number, Reclaim, Slots, Checkpoint, name_of, Form, Alone, WithNumber, WithReads, WithTwo, WithValue, WithBounds, WithRange, MissesWords, form_of, FitsForm, HasWords, IsUnfit, Asks, LineAsksFor}
use Rattle.index_script.specs.declared.request.Request.{Request}
use Rattle.index_script.specs.declared.request.Request.TheVariants as requests
use Rattle.index_script.specs.declared.request.Fault.{Fault}
use Rattle.index_script.specs.declared.request.Fault.TheVariants as faults

-- a byte that is there isn't lacking
pub not_lacking : (c : ℕ) (a b : List ℕ) → Lacks c (a ++ c ∷ b) → ⊥
not_lacking c [] b l = l.0 refl
not_lacking c (x ∷ a) b l = not_lacking c a b l.1

pub lacks_by_index : (c : ℕ) (bs : List ℕ) → ((i : ℕ) → i < length bs → get_or bs i 0 ≢ c) → Lacks c bs
lacks_by_index c [] h = tt
lacks_by_index c (x ∷ bs) h = (h 0 (omega arith), lacks_by_index c bs (λ i lt. h (suc i) (omega (arith, lt))))

-- there is one place of the first space
pub parts_unique : (c : ℕ) (a b x y : List ℕ) → Lacks c a → Lacks c b → a ++ c ∷ x ≡ b ++ c ∷ y → (a ≡ b) × (x ≡ y)
parts_unique c [] [] x y la lb e = (refl, cc)
parts_unique c [] (q ∷ b) x y la lb e = absurd (lb.0 cc)
parts_unique c (p ∷ a) [] x y la lb e = absurd (la.0 cc)
parts_unique c (p ∷ a) (q ∷ b) x y la lb e =
    let head : p ≡ q = cc in
    let tail : a ++ c ∷ x ≡ b ++ c ∷ y = cc in
    let r = parts_unique c a b x y la.1 lb.1 tail in
    (ap (λ z. z ∷ a) head ∙ ap (λ l. q ∷ l) r.0, r.1)

-- a line with a space has one first word
pub first_is : (word rest name : List ℕ) → Lacks 32 word → Lacks 32 name → HasFirst name (word ++ 32 ∷ rest) → word ≡ name
first_is word rest name lw ln (inl e) = absurd (not_lacking 32 word rest (subst (Lacks 32) (sym e) ln))
first_is word rest name lw ln (inr r) = (parts_unique 32 word name rest r.0 lw ln r.1).0

-- a line without a space is its first word
pub only_is : (word name : List ℕ) → Lacks 32 word → HasFirst name word → word ≡ name
only_is word name lw (inl e) = e
only_is word name lw (inr r) = absurd (not_lacking 32 name r.0 (subst (Lacks 32) r.1 lw))

pub not_empty : (word : List ℕ) → length word ≡ 0 → IsNumber word → ⊥
not_empty word e n = let h = decimal_nonempty n.0 n.1 in absurd (omega (arith, h, e, ap length n.2))

decimal_first : (n : ℕ) → n < 2 ^ 64 → 48 ≤ get_or (decimal n) 0 0
decimal_first zero h = rw (decimal_digit 0 (omega arith)) (omega arith)
decimal_first (suc n) h = let f = first_decimal (suc n) (omega arith) h in omega (arith, f)

pub not_plus : (word : List ℕ) → get_or word 0 0 ≡ 43 → IsNumber word → ⊥
not_plus word e n = let f = decimal_first n.0 n.1 in absurd (omega (arith, f, e, ap (λ w. get_or w 0 0) n.2))

zero_alone : (n : ℕ) → n < 2 ^ 64 → get_or (decimal n) 0 0 ≡ 48 → length (decimal n) ≡ 1
zero_alone zero h e = rw (decimal_digit 0 (omega arith)) refl
zero_alone (suc n) h e = let f = first_decimal (suc n) (omega arith) h in absurd (omega (arith, f, e))

pub not_zero_first : (word : List ℕ) → get_or word 0 0 ≡ 48 → 1 < length word → IsNumber word → ⊥
not_zero_first word e more n =
    let one = zero_alone n.0 n.1 (sym (ap (λ w. get_or w 0 0) n.2) ∙ e) in
    absurd (omega (arith, one, more, ap length n.2))

-- what is parsed without a plus or a leading zero is the number's own text
pub parsed : {E : Type 0} (word : List ℕ) (n : ℕ) (r : Result ℕ E) → ParsesUnsigned 64 10 word r → r ≡ Ok n → get_or word 0 0 ≢ 43 → (get_or word 0 0 ≡ 48 → length word ≡ 1) → word ≡ decimal n
parsed word n r h is plus lead =
    let p = subst (λ x. ParsesUnsigned 64 10 word x) is h in
    let same = without_leading_plus_none word plus in
    let some : 0 < length word = subst (λ w. 0 < length w) same p.0.0.0 in
    let digits : AllDigits 10 word = subst (λ w. AllDigits 10 w) same p.0.0.1 in
    let small : digits_value 10 word < 2 ^ 64 = subst (λ w. digits_value 10 w < 2 ^ 64) same p.0.1 in
    let value : n ≡ digits_value 10 word = subst (λ w. n ≡ digits_value 10 w) same p.1 in
    sym (ap (λ m. decimal m) value ∙ decimal-digits_value (numerals_by_value _ tells_digits) word digits some lead small)

pub not_parsed : {E : Type 0} (word : List ℕ) (e : E) (r : Result ℕ E) → ParsesUnsigned 64 10 word r → r ≡ Err e → IsNumber word → ⊥
not_parsed word e r h is n = let ok = parse-decimal 64 n.0 word r n.1 n.1 n.2 h in absurd cc

pub empty_length : (n : ℕ) → true ≡ (n == 0) → n ≡ 0
empty_length n e = grind (arith, nat_tests, e)

-- a first 0 that isn't followed by more is the only byte
pub alone : (bytes word : List ℕ) → bytes ≡ word → false ≡ (length bytes == 0) → ((get_or bytes 0 0 ≡ 48) × (length bytes ≤ 1)) ⊎ (get_or bytes 0 0 ≢ 48) → get_or word 0 0 ≡ 48 → length word ≡ 1
alone [] word same some either e = absurd (false≢true some)
alone (b ∷ bs) word same some (inl short) e = sym (ap length same) ∙ omega (arith, short.1)
alone (b ∷ bs) word same some (inr other) e = absurd (other (ap (λ w. get_or w 0 0) same ∙ e))

-- the line has that first word, since it has this one
pub first_of : (line word rest name : List ℕ) → (line ≡ word ++ 32 ∷ rest) × Lacks 32 word → Lacks 32 name → (word ≡ name → ⊥) → HasFirst name line → ⊥
first_of line word rest name cut lacks other h = other (first_is word rest name cut.1 lacks (subst (HasFirst name) cut.0 h))

-- no name has a space
name_lacks : (command : Command) → Lacks 32 (name_of command)
name_lacks Insert = search rules
name_lacks Upsert = search rules
name_lacks Remove = search rules
name_lacks Delete = search rules
name_lacks Clear = search rules
name_lacks Discard = search rules
name_lacks Commit = search rules
name_lacks Open = search rules
name_lacks Close = search rules
name_lacks Get = search rules
name_lacks Has = search rules
name_lacks Range = search rules
name_lacks Near = search rules
name_lacks Audit = search rules
name_lacks Len = search rules
name_lacks Number = search rules
name_lacks Reclaim = search rules
name_lacks Slots = search rules
name_lacks Checkpoint = search rules

-- the first of several words is no name
pub unknown_first : (line word rest : List ℕ) → (line ≡ word ++ 32 ∷ rest) × Lacks 32 word → ((command : Command) → word ≡ name_of command → ⊥) → MissesCommand line
unknown_first line word rest cut others command h = first_of line word rest (name_of command) cut (name_lacks command) (others command) h

-- the only word is no name
pub unknown_only : (word : List ℕ) → Lacks 32 word → ((command : Command) → word ≡ name_of command → ⊥) → MissesCommand word
unknown_only word lacks others command h = others command (only_is word (name_of command) lacks h)

-- what stands behind a word
behind_same : (word a b : List ℕ) → word ++ 32 ∷ a ≡ word ++ 32 ∷ b → a ≡ b
behind_same [] a b e = cc
behind_same (x ∷ word) a b e = let tail : word ++ 32 ∷ a ≡ word ++ 32 ∷ b = cc in behind_same word a b tail

no_words : (form : Form) (word line : List ℕ) → (form ≡ Alone → ⊥) → Lacks 32 line → HasWords form word line → ⊥
no_words Alone word line more lacks h = more refl
no_words WithNumber word line more lacks h = not_lacking 32 word h.0 (subst (Lacks 32) h.1 lacks)
no_words WithReads word line more lacks h = not_lacking 32 word h.0 (subst (Lacks 32) h.1 lacks)
no_words WithTwo word line more lacks h = not_lacking 32 word h.0 (subst (Lacks 32) h.1 lacks)
no_words WithValue word line more lacks h = not_lacking 32 word h.0 (subst (Lacks 32) h.1 lacks)
no_words WithBounds word line more lacks h = not_lacking 32 word h.0 (subst (Lacks 32) h.1 lacks)
no_words WithRange word line more lacks h = not_lacking 32 word h.0 (subst (Lacks 32) h.1 lacks)

-- the word is the name of one of these
abbrev IsOneOf : List Command → List ℕ → Type 0
IsOneOf [] word = ⊥
IsOneOf (command ∷ []) word = word ≡ name_of command
IsOneOf (command ∷ other ∷ more) word = (word ≡ name_of command) ⊎ IsOneOf (other ∷ more) word

-- more belongs to a command
abbrev HasMore : Command → Type 0
HasMore command = form_of command ≡ Alone → ⊥

-- a line of one word, to which more belong
too_few : (commands : List Command) (word : List ℕ) → AllByRecursion HasMore commands → Lacks 32 word → IsOneOf commands word → MissesWords word
too_few [] word more lacks is = absurd is
too_few (command ∷ []) word more lacks is = (command, inl is, no_words (form_of command) (name_of command) word more.0 lacks)
too_few (command ∷ other ∷ rest) word more lacks (inl is) = (command, inl is, no_words (form_of command) (name_of command) word more.0 lacks)
too_few (command ∷ other ∷ rest) word more lacks (inr is) = too_few (other ∷ rest) word more.1 lacks is

abbrev of_more : List Command
of_more = Insert ∷ Upsert ∷ Remove ∷ Delete ∷ Commit ∷ Open ∷ Close ∷ Get ∷ Has ∷ Range ∷ Near ∷ Audit ∷ Len ∷ Number ∷ Checkpoint ∷ []

have_more : AllByRecursion HasMore of_more
have_more =
    ((λ e. absurd cc), ((λ e. absurd cc), ((λ e. absurd cc), ((λ e. absurd cc), ((λ e. absurd cc), ((λ e. absurd cc), ((λ e. absurd cc), ((λ e. absurd cc), ((λ e. absurd cc), ((λ e. absurd cc), ((λ e. absurd cc), ((λ e. absurd cc), ((λ e. absurd cc), ((λ e. absurd cc), ((λ e. absurd cc), tt)))))))))))))))

-- the word is the first of several
pub first_alone : (word : List ℕ) → Lacks 32 word → IsOneOf of_more word → MissesWords word
first_alone word = too_few of_more word have_more

-- a line of more words than the one that it may have
beyond : (command : Command) (line word rest : List ℕ) → form_of command ≡ Alone → (line ≡ word ++ 32 ∷ rest) × Lacks 32 word → word ≡ name_of command → MissesWords line
beyond command line word rest form cut e = (
  command,
  inr (rest, cut.0 ∙ ap (λ w. w ++ 32 ∷ rest) e),
  λ h.
      let alone : line ≡ name_of command = subst (λ f. HasWords f (name_of command) line) form h in
      not_lacking 32 word rest (subst (Lacks 32) (e ∙ sym alone ∙ cut.0) cut.1),
)

too_many : (commands : List Command) (line word rest : List ℕ) → AllByRecursion (λ c. form_of c ≡ Alone) commands → (line ≡ word ++ 32 ∷ rest) × Lacks 32 word → IsOneOf commands word → MissesWords line
too_many [] line word rest form cut is = absurd is
too_many (command ∷ []) line word rest form cut is = beyond command line word rest form.0 cut is
too_many (command ∷ other ∷ more) line word rest form cut (inl is) = beyond command line word rest form.0 cut is
too_many (command ∷ other ∷ more) line word rest form cut (inr is) = too_many (other ∷ more) line word rest form.1 cut is

abbrev alone_ones : List Command
alone_ones = Clear ∷ Discard ∷ Reclaim ∷ Slots ∷ []

-- the word is to be the only one
pub only_of_many : (line word rest : List ℕ) → (line ≡ word ++ 32 ∷ rest) × Lacks 32 word → IsOneOf alone_ones word → MissesWords line
only_of_many line word rest = too_many alone_ones line word rest (refl, (refl, (refl, (refl, tt))))

fits_behind : (form : Form) (word rest : List ℕ) → HasWords form word (word ++ 32 ∷ rest) → FitsForm form rest
fits_behind Alone word rest h = absurd (omega (arith, ap length h, length-append word (32 ∷ rest)))
fits_behind WithNumber word rest h = subst (FitsForm WithNumber) (sym (behind_same word rest h.0 h.1)) h.2
fits_behind WithReads word rest h = subst (FitsForm WithReads) (sym (behind_same word rest h.0 h.1)) h.2
fits_behind WithTwo word rest h = subst (FitsForm WithTwo) (sym (behind_same word rest h.0 h.1)) h.2
fits_behind WithValue word rest h = subst (FitsForm WithValue) (sym (behind_same word rest h.0 h.1)) h.2
fits_behind WithBounds word rest h = subst (FitsForm WithBounds) (sym (behind_same word rest h.0 h.1)) h.2
fits_behind WithRange word rest h = subst (FitsForm WithRange) (sym (behind_same word rest h.0 h.1)) h.2

-- what stands behind the first word isn't what belongs there
pub unfit : (command : Command) (rest : List ℕ) (fault : Fault) → IsUnfit (form_of command) rest fault → Asks (name_of command ++ 32 ∷ rest) (requests.Faulty fault)
unfit command rest faults.Words why = (command, inr (rest, refl), λ h. why (fits_behind (form_of command) (name_of command) rest h))
unfit command rest faults.Number why = (command, rest, refl, why)
unfit command rest faults.Bound why = (command, rest, refl, why)
unfit command rest faults.Long why = absurd why
unfit command rest faults.Text why = absurd why
unfit command rest faults.Command why = absurd why
unfit command rest faults.Session why = absurd why
unfit command rest faults.Busy why = absurd why

-- a commit with neither `-` nor a number
pub no_reads : (rest : List ℕ) (fault : Fault) → rest ≢ codes "-" → IsUnfit WithNumber rest fault → IsUnfit WithReads rest fault
no_reads rest faults.Words other why = why
no_reads rest faults.Number other why = (why.0, other, why.1)
no_reads rest faults.Bound other why = why
no_reads rest faults.Long other why = why
no_reads rest faults.Text other why = why
no_reads rest faults.Command other why = why
no_reads rest faults.Session other why = why
no_reads rest faults.Busy other why = why

-- one word where more are wanted
pub no_value : (rest : List ℕ) → Lacks 32 rest → FitsForm WithValue rest → ⊥
no_value rest lacks h = not_lacking 32 h.0 h.1 (subst (Lacks 32) h.2.text lacks)

pub no_second : (rest one two : List ℕ) → Lacks 32 rest → AreTwo rest one two → ⊥
no_second rest one two lacks w = not_lacking 32 one two (subst (Lacks 32) w.text lacks)

-- more than two
pub not_two : (rest one more a b first second : List ℕ) → (rest ≡ one ++ 32 ∷ more) × Lacks 32 one → more ≡ a ++ 32 ∷ b → AreTwo rest first second → ⊥
not_two rest one more a b first second cut again w =
    let same = parts_unique 32 one first more second cut.1 w.first (sym cut.0 ∙ w.text) in
    not_lacking 32 a b (subst (Lacks 32) (sym same.1 ∙ again) w.second)

-- one word where three are wanted
pub no_third : (rest : List ℕ) → Lacks 32 rest → FitsForm WithRange rest → ⊥
no_third rest lacks h = not_lacking 32 h.0 (h.1 ++ 32 ∷ h.2) (subst (Lacks 32) h.3.text lacks)

-- not two behind the first
pub not_three : (rest one behind : List ℕ) → (rest ≡ one ++ 32 ∷ behind) × Lacks 32 one → ((two three : List ℕ) → AreTwo behind two three → ⊥) → FitsForm WithRange rest → ⊥
not_three rest one behind cut none h =
    let same = parts_unique 32 one h.0 behind (h.1 ++ 32 ∷ h.2) cut.1 h.3.first (sym cut.0 ∙ h.3.text) in
    none h.1 h.2 (record { text = same.1; first = h.3.second; second = h.3.third })

-- a mark at the front
pub mark_some : (mark : ℕ) (bs : List ℕ) (r : Option (Bor (List ℕ))) → MatchOption r ((rest : List ℕ) → bs ≢ mark ∷ rest) (λ x. bs ≡ mark ∷ x.now) → IfSome r (λ x. bs ≡ mark ∷ x.now)
mark_some mark bs None h = tt
mark_some mark bs (Some x) h = h

pub mark_none : (mark : ℕ) (bs : List ℕ) (r : Option (Bor (List ℕ))) → MatchOption r ((rest : List ℕ) → bs ≢ mark ∷ rest) (λ x. bs ≡ mark ∷ x.now) → IfNone r ((rest : List ℕ) → bs ≢ mark ∷ rest)
mark_none mark bs None h = h
mark_none mark bs (Some x) h = tt

-- a text asks for what the line asks for, if it isn't too long
pub read_text : (line : List ℕ) (request : Request) → length line ≤ 65536 → IsUtf8 line → Asks line request → LineAsksFor line request
read_text line (requests.Insert key value) short text asks = (short, text, asks)
read_text line (requests.Upsert key value) short text asks = (short, text, asks)
read_text line (requests.Remove key) short text asks = (short, text, asks)
read_text line (requests.Delete lower upper) short text asks = (short, text, asks)
read_text line requests.Clear short text asks = (short, text, asks)
read_text line requests.Discard short text asks = (short, text, asks)
read_text line (requests.Commit label) short text asks = (short, text, asks)
read_text line (requests.Open label) short text asks = (short, text, asks)
read_text line (requests.Get label key) short text asks = (short, text, asks)
read_text line (requests.Has label key) short text asks = (short, text, asks)
read_text line (requests.Range label lower upper) short text asks = (short, text, asks)
read_text line (requests.Near label key) short text asks = (short, text, asks)
read_text line (requests.Audit label) short text asks = (short, text, asks)
read_text line (requests.Close label) short text asks = (short, text, asks)
read_text line (requests.Len label) short text asks = (short, text, asks)
read_text line (requests.Number label) short text asks = (short, text, asks)
read_text line requests.Reclaim short text asks = (short, text, asks)
read_text line requests.Slots short text asks = (short, text, asks)
read_text line (requests.Checkpoint upto) short text asks = (short, text, asks)
read_text line (requests.Faulty faults.Long) short text asks = absurd asks
read_text line (requests.Faulty faults.Text) short text asks = absurd asks
read_text line (requests.Faulty faults.Command) short text asks = (short, text, asks)
read_text line (requests.Faulty faults.Words) short text asks = (short, text, asks)
read_text line (requests.Faulty faults.Number) short text asks = (short, text, asks)
read_text line (requests.Faulty faults.Bound) short text asks = (short, text, asks)
read_text line (requests.Faulty faults.Session) short text asks = absurd asks
read_text line (requests.Faulty faults.Busy) short text asks = absurd asks

-- what is kept of a line says whether it is too long
pub kept_some : (bytes line : List ℕ) → Some bytes ≡ kept line → (bytes ≡ line) × (length line ≤ 65536)
kept_some bytes line e = (elim (nat_le (length line) 65536) as (λ b. nat_le (length line) 65536 ≡ b → Some bytes ≡ cond b (Some line) None → (bytes ≡ line) × (length line ≤ 65536)) [
  | true ↦ λ is e. (cc, grind (arith, nat_tests))
  | false ↦ λ is e. absurd cc
]) refl e
