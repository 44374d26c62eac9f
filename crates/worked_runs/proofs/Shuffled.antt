-- specs/Shuffled.antt, computed (demands/proofs/Computing.antt): what each step answers, down to MD5 for each MAC, and the rest by proofs/Network.antt.
use mathlib.Core.Path.{◌≡◌, refl}
use mathlib.Core.Bool.{true}
use mathlib.Core.List.{List, [], ◌∷◌, ◌++◌}
use Prim.Native.Nat.{ℕ}
use native.Mathlib.Omega.{arith}
use lib.ListN.{get_or, drop}
use Rattle.refusal.specs.declared.Refusal.TheVariants.{WrongMac, NoNonce}
use Rattle.dhcp_message.specs.Options.{Token, opt}
use Rattle.dhcp_message.specs.Relay.{kept, added, Permitted, unchanged, changed}
use Rattle.key_book.specs.Book.{Book, Sound}
use Rattle.key_book.proofs.Says.{sound_says}
use Rattle.delayed_auth.specs.Check.{check_of}
use Rattle.forcerenew.specs.Rows.{Servers}
use Rattle.forcerenew.specs.Judging.{judge_of, judged_of}
use Rattle.demands.specs.Accepts.{Accepts, Heeds}
use Rattle.demands.specs.Demand3.{check, seal, judge, book_after, rows_after, Carried, same, relayed, no_check, no_judgement, Rearranged}
use Rattle.demands.proofs.Below.{never}
use Rattle.demands.proofs.Stages.{check_accepts, end_check}
use Rattle.demands.proofs.Demand2.{demand_2}
use Rattle.demands.proofs.Demand3.{demand_3}
use Rattle.worked_runs.specs.Shuffled.{book, servers, start, auth7, auth8, ended, relay_info, sent_message, relayed_message, to_seal, forged}
use Rattle.worked_runs.specs.Shuffled.{ack, renewal, first, second, place, Shuffled}
use Rattle.demands.proofs.Computing.{computing}
use Rattle.worked_runs.proofs.Network.{◌and◌, order_of, before, before_all, in_order, rearranged, relays}
use Rattle.std.specs.Prelude.{Err}

is_sound : Sound book
unfolding computing
is_sound = (sound_says book).0 refl

-- ---- the messages as they were relayed

-- option 82 before option 90 of secret 8
tokens8 : List Token
tokens8 = opt 82 (1 ∷ 1 ∷ 9 ∷ []) ∷ opt 90 (drop 2 auth8) ∷ []

change_7 : Permitted (sent_message auth7) (relayed_message 1 1 (auth7 ++ ended))
unfolding computing
change_7 =
    let tokens : List Token = opt 90 (drop 2 auth7) ∷ [] in
    relays _ _ tt tokens tokens (omega arith, refl) (kept refl) 1 1 (omega arith) (omega arith) refl (omega arith)

change_8 : Permitted (sent_message auth8) (relayed_message 1 1 (relay_info ++ (auth8 ++ ended)))
unfolding computing tokens8
change_8 =
    relays _ _ tt (opt 90 (drop 2 auth8) ∷ []) tokens8 (omega arith, refl) (added [] (1 ∷ 1 ∷ 9 ∷ []) (opt 90 (drop 2 auth8) ∷ []) (omega arith) refl refl refl)
    1 1 (omega arith) (omega arith) refl (omega arith)

again_8 : Permitted (relayed_message 1 1 (relay_info ++ (auth8 ++ ended))) (relayed_message 2 2 (relay_info ++ (auth8 ++ ended)))
unfolding computing tokens8
again_8 = relays _ _ tt tokens8 tokens8 (omega arith, refl) (kept refl) 2 2 (omega arith) (omega arith) refl (omega arith)

-- the same one shown again, behind another relay
shown_8 : Permitted (sent_message auth8) (relayed_message 3 3 (auth8 ++ ended))
unfolding computing
shown_8 =
    let tokens : List Token = opt 90 (drop 2 auth8) ∷ [] in
    relays _ _ tt tokens tokens (omega arith, refl) (kept refl) 3 3 (omega arith) (omega arith) refl (omega arith)

relayed_7 : Carried (check (sent_message auth7)) (check (relayed_message 1 1 (auth7 ++ ended)))
relayed_7 = relayed change_7.passes (changed change_7 unchanged)

relayed_8 : Carried (check (sent_message auth8)) (check (relayed_message 2 2 (relay_info ++ (auth8 ++ ended))))
relayed_8 = relayed change_8.passes (changed change_8 (changed again_8 unchanged))

relayed_again : Carried (check (sent_message auth8)) (check (relayed_message 3 3 (auth8 ++ ended)))
relayed_again = relayed shown_8.passes (changed shown_8 unchanged)

-- ---- the check put in is not accepted there

after_seal : Book
after_seal = book_after book (seal 7 to_seal)

after_seal_sound : Sound after_seal
unfolding computing after_seal
after_seal_sound = (sound_says after_seal).0 refl

wrong_mac : check_of after_seal forged ≡ Err WrongMac
unfolding computing after_seal
wrong_mac = refl

not_accepted : (k c : ℕ) → Accepts after_seal forged k c → ⊥
not_accepted k c a = let e = end_check after_seal forged _ (check_accepts after_seal_sound a) in never (cc wrong_mac)

-- ---- nor are the judgements put in

after_ack : Servers
after_ack = rows_after servers (judge 0 ack)

no_nonce : judged_of (judge_of servers 0 renewal) ≡ Err NoNonce
unfolding computing
no_nonce = refl

other_nonce : judged_of (judge_of after_ack 1 renewal) ≡ Err WrongMac
unfolding computing after_ack
other_nonce = refl

not_early : (type c : ℕ) → Heeds servers 0 renewal type c → ⊥
not_early type c h = let e = (demand_2.heeded servers 0 renewal type c).1 h in never (cc no_nonce)

not_elsewhere : (type c : ℕ) → Heeds after_ack 1 renewal type c → ⊥
not_elsewhere type c h = let e = (demand_2.heeded after_ack 1 renewal type c).1 h in never (cc other_nonce)

-- ---- the second run

-- back from a place in the second run to the step of the first
from : ℕ → ℕ
from p = get_or (10 ∷ 1 ∷ 10 ∷ 4 ∷ 10 ∷ 3 ∷ 2 ∷ 8 ∷ 0 ∷ 5 ∷ 6 ∷ 9 ∷ 7 ∷ []) p 10

orders : in_order first place ≡ true
unfolding computing order_of before before_all in_order
orders = refl

made : Rearranged start first second place
unfolding computing after_seal after_ack from
made =
    rearranged start first second place from
    (refl and refl and refl and refl and refl and refl and refl and refl and refl and refl and tt)
    ((_, refl, relayed_7) and (_, refl, same) and (_, refl, relayed_8) and (_, refl, same) and (_, refl, same)
    and (_, refl, same) and (_, refl, same) and (_, refl, same) and (_, refl, same) and (_, refl, relayed_again) and tt)
    orders
    ((judge 0 renewal, refl, no_judgement not_early) and tt and (judge 1 renewal, refl, no_judgement not_elsewhere) and tt
    and (check forged, refl, no_check not_accepted) and tt and tt and tt and tt and tt and tt and tt and tt and tt)

pub shuffled : Shuffled
unfolding computing after_seal after_ack
shuffled = record {
  is_sound = is_sound;
  first_answers = refl;
  first_marks = refl;
  first_received = refl;
  first_sent = refl;
  first_servers = refl;
  forged_there = wrong_mac;
  renewal_early = no_nonce;
  renewal_elsewhere = other_nonce;
  made = made;
  same_run = demand_3.any_order start is_sound first second place made;
}
