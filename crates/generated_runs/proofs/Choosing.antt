-- What is chosen reads what the transfer asks for, and hands in what was read.
use Rattle.std.proofs.Common.{◌≡◌, ℕ, ◌+◌, ◌-◌, ◌*◌, ◌/◌, ◌%◌, ◌^◌, ◌==◌, nat_le, Bool, true, false, ◌&&◌, ◌||◌, if◌then◌else◌, length, List, [], ◌∷◌, Option, Some, None, refl, sym, ap, ◌∙◌, subst}
use Rattle.std.specs.List.{list_all, list_any}
use Rattle.std.proofs.lemmas.Bool.{and_from}
use Rattle.tcs_terms.specs.declared.inputs.Note.{Note}
use Rattle.tcs_terms.specs.declared.payloads.ReadPart.{ReadPart}
use Rattle.tcs_terms.specs.Order.{name_before}
use Rattle.tcs_terms.specs.Payloads.{Accesses, same_name}
use Rattle.protocol.specs.OneCopy.{tells_version}
use Rattle.store_client.specs.declared.parts.Part.{Part}
use Rattle.store_client.specs.Parts.{with_put, reads, read_of}
use Rattle.generator.specs.declared.accounts.Reading.{Reading}
use Rattle.generator.specs.declared.transfers.Transfer.{Transfer}
use Rattle.generator.specs.declared.transfers.Transfer.TheVariants.{Idle, Begun, Half, Whole}
use Rattle.generator.specs.declared.doings.Doing.{Doing}
use Rattle.generator.specs.declared.doings.Doing.TheVariants as doings
use Rattle.generator.specs.Accounts.{account_name, balance_bytes, balance_of, amount_of, part_of, both_read, transfer_payload}
use Rattle.generator.specs.Choices.{fixed_at}
use Rattle.generator.specs.Courses.{CourseState, Chosen, does, is_collecting, goes_on, delivers_first, delivers_second, by_word, fixed_or, chosen}
use Rattle.generator.specs.Words.{word, later}

-- ---- what was read

-- an account was read at that version
abbrev pub WasRead : List Note → Reading → Type 0
WasRead h r = list_any (tells_version (account_name r.account) r.version) h ≡ true

abbrev pub Seen : List Note → Transfer → Type 0
Seen h Idle = Unit {0}
Seen h (Begun from to) = Unit {0}
Seen h (Half from to) = WasRead h from
Seen h (Whole from to) = WasRead h from × WasRead h to

-- whether a read was made at that version
abbrev pub was_told : List Note → ReadPart → Bool
was_told h = λ (r : ReadPart). list_any (tells_version r.name r.version) h

-- all that a payload reads was read
abbrev pub IsHonest : List Note → Accesses → Type 0
IsHonest h p = list_all (was_told h) p.reads ≡ true

put_reads : (name value : List ℕ) (ps : List Part) → reads (with_put name value ps) ≡ reads ps
put_reads name value [] = refl
put_reads name value (p ∷ ps) = go (same_name p.name name) (put_reads name value ps) where
  go : (b : Bool) → reads (with_put name value ps) ≡ reads ps → reads (if b then record p { put = Some value } ∷ ps else p ∷ with_put name value ps) ≡ reads (p ∷ ps)
  go true same = refl
  go false same = ap (λ (rs : List ReadPart). read_of p ∷ rs) same

both_told : (h : List Note) (from to : Reading) → WasRead h from → WasRead h to → list_all (was_told h) (reads (both_read from to)) ≡ true
both_told h from to a b = go (name_before (account_name from.account) (account_name to.account)) where
  go : (first : Bool) → list_all (was_told h) (reads (if first then part_of from ∷ part_of to ∷ [] else part_of to ∷ part_of from ∷ [])) ≡ true
  go true = and_from (was_told h (read_of (part_of from))) (was_told h (read_of (part_of to)) && true) a (and_from (was_told h (read_of (part_of to))) true b refl)
  go false = and_from (was_told h (read_of (part_of to))) (was_told h (read_of (part_of from)) && true) b (and_from (was_told h (read_of (part_of from))) true a refl)

transfer_is_honest : (h : List Note) (from to : Reading) (w : ℕ) → WasRead h from → WasRead h to → IsHonest h (transfer_payload from to w)
transfer_is_honest h from to w a b =
    let amount = amount_of (balance_of from.value) w in
    let lower = with_put (account_name from.account) (balance_bytes (balance_of from.value - amount)) (both_read from to) in
    ap (list_all (was_told h))
    (put_reads (account_name to.account) (balance_bytes ((balance_of to.value + amount) % 2 ^ 64)) lower
    ∙ put_reads (account_name from.account) (balance_bytes (balance_of from.value - amount)) (both_read from to))
    ∙ both_told h from to a b

-- ---- what is chosen

-- the object that is read is the account that the transfer asks for
abbrev pub Asks : List ℕ → Transfer → Type 0
Asks name Idle = ⊥
Asks name (Begun from to) = name ≡ account_name from
Asks name (Half from to) = name ≡ account_name to
Asks name (Whole from to) = ⊥

abbrev pub IsFair : List Note → Doing → Transfer → Type 0
IsFair h doings.Stop t = Unit {0}
IsFair h doings.FirstMove t = Unit {0}
IsFair h doings.TakeOver t = Unit {0}
IsFair h doings.SecondMove t = Unit {0}
IsFair h doings.Nudge t = Unit {0}
IsFair h (doings.Deliver number) t = Unit {0}
IsFair h (doings.Read name) t = Asks name t
IsFair h (doings.Certify payload) t = IsHonest h payload

pub record Stands (h : List Note) (x : Chosen) : Type 0 where
  pub seen : Seen h x.course.transfer
  pub fair : IsFair h x.doing x.course.transfer

pub if_both : {A : Type 0} (P : A → Type 0) (b : Bool) {x y : A} → P x → P y → P (if b then x else y)
if_both P true p q = p
if_both P false p q = q

goes_on-stands : (h : List Note) (c : CourseState) (t : Transfer) → c.transfer ≡ t → Seen h t → Stands h (goes_on c t)
goes_on-stands h c Idle e s = record { seen = tt; fair = refl }
goes_on-stands h c (Begun from to) e s = record { seen = subst (Seen h) (sym e) s; fair = subst (Asks (account_name from)) (sym e) refl }
goes_on-stands h c (Half from to) e s = record { seen = subst (Seen h) (sym e) s; fair = subst (Asks (account_name to)) (sym e) refl }
goes_on-stands h c (Whole from to) e s = record { seen = tt; fair = transfer_is_honest h from to (word c.words) s.0 s.1 }

first-stands : (h : List Note) (c : CourseState) (queue : List ℕ) → Seen h c.transfer → Stands h (delivers_first c queue)
first-stands h c [] s = record { seen = s; fair = tt }
first-stands h c (n ∷ ns) s = record { seen = s; fair = tt }

second-stands : (h : List Note) (c : CourseState) (queue : List ℕ) → Seen h c.transfer → Stands h (delivers_second c queue)
second-stands h c [] s = record { seen = s; fair = tt }
second-stands h c (n ∷ []) s = record { seen = s; fair = tt }
second-stands h c (m ∷ n ∷ ns) s = record { seen = s; fair = tt }

-- what holds of each choice by a word holds of the one that is made
pub by_word-each : (P : Chosen → Type 0) (waits : Bool) (sent w : ℕ) (c : CourseState) → P (does doings.Nudge c) → P (goes_on c c.transfer) → P (does (doings.Deliver (1 + w / 16 % sent)) c)
    → P (delivers_second c c.queue) → P (delivers_first c c.queue) → P (by_word waits sent w c)
by_word-each P waits sent w c nudge transfer repeat second first =
    if_both P ((length c.queue == 0) && waits && (w % 2 == 0)) nudge
    (if_both P (is_collecting c.transfer || (length c.queue == 0) || (w % 16 == 0)) transfer
    (if_both P (w % 16 == 1) repeat (if_both P ((w % 16 == 2) && nat_le 2 (length c.queue)) second first)))

by_word-stands : (h : List Note) (waits : Bool) (sent w : ℕ) (c : CourseState) → Seen h c.transfer → Stands h (by_word waits sent w c)
by_word-stands h waits sent w c s =
    by_word-each (Stands h) waits sent w c (record { seen = s; fair = tt }) (goes_on-stands h c c.transfer refl s) (record { seen = s; fair = tt })
    (second-stands h c c.queue s) (first-stands h c c.queue s)

-- what stands at a fixed place reads nothing and hands in nothing
abbrev pub IsFixed : Option Doing → Type 0
IsFixed None = Unit {0}
IsFixed (Some doing) = (h : List Note) (t : Transfer) → IsFair h doing t

pub fixed-each : (P : Option Doing → Type 0) (count place : ℕ) → P (Some doings.Stop) → P (Some doings.FirstMove) → P (Some doings.TakeOver) → P (Some doings.SecondMove) → P None → P (fixed_at count place)
fixed-each P count place stop first taken second none =
    if_both P (place == count / 3) stop (if_both P (place == count / 3 + 1) first (if_both P (place == count / 2) taken (if_both P (place == 2 * count / 3) second none)))

fixed-is : (count place : ℕ) → IsFixed (fixed_at count place)
fixed-is count place = fixed-each IsFixed count place (λ h t. tt) (λ h t. tt) (λ h t. tt) (λ h t. tt) tt

fixed_or-stands : (h : List Note) (fixed : Option Doing) (waits : Bool) (sent : ℕ) (c : CourseState) → IsFixed fixed → Seen h c.transfer → Stands h (fixed_or fixed waits sent c)
fixed_or-stands h None waits sent c f s = by_word-stands h waits sent (word c.words) (record c { words = later c.words }) s
fixed_or-stands h (Some doing) waits sent c f s = record { seen = s; fair = f h c.transfer }

pub chosen_stands : (h : List Note) (count place : ℕ) (waits : Bool) (sent : ℕ) (c : CourseState) → Seen h c.transfer → Stands h (chosen count place waits sent c)
chosen_stands h count place waits sent c s = fixed_or-stands h (fixed_at count place) waits sent c (fixed-is count place) s
