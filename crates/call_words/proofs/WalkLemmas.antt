-- What clap's walk over all words comes to, beside the grammar.
use Rattle.std.proofs.Common.{◌≡◌, ◌∙◌, Bool, true, false, refl, sym, ap, ap₂, subst, List, [], ◌∷◌, Option, Some, None}
use Rattle.std.proofs.Common.{true≢false, fold}
use Rattle.std.specs.{Prelude.option_and_then, List.list_any}
use Rattle.clap.specs.Walk.{Held, Waiting, Walk, idle, option, arg_by_long, used, walked, reacted, settled}
use Rattle.clap.specs.Faults.{settle_fault, turn_fault, use_fault, walk_fault}
use Rattle.clap.specs.{Lexer.long_of, Kinds.or_else}
use Rattle.call_words.specs.Texts.{Text, begins_with_hyphen, is_odd, option_in}
use Rattle.call_words.specs.Options.{Key, Rate, Given, key_of, put, put_then, key_met, option_met}
use Rattle.call_words.specs.Options.{value_met, word_met, options_of}
use Rattle.call_words.proofs.NewOptions.{shape, rules, at, Faulty, faulty_first, faulty_next, name_of, rule_of, Tells}
use Rattle.call_words.proofs.RowLemmas.{Puts, putting, Fresh, Again}
use Rattle.call_words.proofs.TurnLemmas.{Names, names, unknown_turn, attached_turn, attached_walked, alone_turn}
use Rattle.call_words.proofs.TurnLemmas.{held_for, alone_walked, stray_turn, doomed_turn, waits_settle, eager_turn}
use Rattle.call_words.proofs.TurnLemmas.{value_turn, value_walked, apart_long, long_is, no_hyphen, apart_plain}
use Rattle.call_words.proofs.TurnLemmas.{short_plain, Known, Unknown}

-- what clap's walk comes to, beside what the grammar says
pub data Result (ws : List Text) (W : Walk) : Option Given → Type 0 where
  Bad : Faulty (walk_fault shape [] W ws) → Result ws W None
  Late : (h : Held) (waits : Waiting) → walk_fault shape [] W ws ≡ [] → fold (walked rules []) W ws ≡ at h waits
      → Faulty (settle_fault rules false h) → Result ws W None
  Done : (h : Held) (g : Given) → walk_fault shape [] W ws ≡ [] → fold (walked rules []) W ws ≡ at h idle
      → settle_fault rules false h ≡ [] → Tells (settled rules h).rows g → Result ws W (Some g)

walk_nil : (W : Walk) → walk_fault shape [] W [] ≡ []
unfolding walk_fault
walk_nil W = refl

walk_cons : (W : Walk) (w : Text) (ws : List Text)
    → walk_fault shape [] W (w ∷ ws) ≡ or_else (turn_fault shape [] W w) (walk_fault shape [] (walked rules [] W w) ws)
unfolding walk_fault
walk_cons W w ws = refl

bad_first : (W : Walk) (w : Text) (ws : List Text) → Faulty (turn_fault shape [] W w) → Result (w ∷ ws) W None
bad_first W w ws f = Bad (rw (walk_cons W w ws) (faulty_first _ _ f))

clear_on : (W V : Walk) (w : Text) (ws : List Text) → turn_fault shape [] W w ≡ [] → walked rules [] W w ≡ V
    → walk_fault shape [] W (w ∷ ws) ≡ walk_fault shape [] V ws
clear_on W V w ws turn is = walk_cons W w ws ∙ ap₂ or_else turn (ap (λ (U : Walk). walk_fault shape [] U ws) is)

ends_on : (W V : Walk) (w : Text) (ws : List Text) → walked rules [] W w ≡ V
    → fold (walked rules []) W (w ∷ ws) ≡ fold (walked rules []) V ws
ends_on W V w ws is = ap (λ (U : Walk). fold (walked rules []) U ws) is

onward : (W V : Walk) (w : Text) (ws : List Text) (o : Option Given) → turn_fault shape [] W w ≡ []
    → walked rules [] W w ≡ V → Result ws V o → Result (w ∷ ws) W o
onward W V w ws _ turn is (Bad f) = Bad (subst Faulty (sym (clear_on W V w ws turn is)) f)
onward W V w ws _ turn is (Late h waits clear ends f) =
    Late h waits (clear_on W V w ws turn is ∙ clear) (ends_on W V w ws is ∙ ends) f
onward W V w ws _ turn is (Done h g clear ends calm tells) =
    Done h g (clear_on W V w ws turn is ∙ clear) (ends_on W V w ws is ∙ ends) calm tells

abbrev pub waiting_for : Option Key → Waiting
waiting_for None = idle
waiting_for (Some key) = option (name_of key)

abbrev pub State : Option Key → Held → Given → Type 0
State None h g = (settle_fault rules false h ≡ []) × Tells (settled rules h).rows g
State (Some key) h g = (h.pending ≡ Some (name_of key, [])) × Tells h.rows g

abbrev pub Rest : List Text → (Option Key → Given → Option Given) → Type 0
Rest ws next = (waits : Option Key) (h : Held) (g : Given) → State waits h g
    → Result ws (at h (waiting_for waits)) (next waits g)

-- where what is pending fails, the words fail
doomed : (ws : List Text) (h : Held) → list_any is_odd ws ≡ false → Faulty (settle_fault rules false h)
    → Result ws (at h idle) None
doomed [] h odd f = Late h idle (walk_nil _) refl f
doomed (w ∷ ws) h odd f = go (long_of w) refl (is_odd w) refl
  where
    go : (o : Option (Text × Option Text)) → long_of w ≡ o → (b : Bool) → is_odd w ≡ b
        → Result (w ∷ ws) (at h idle) None
    go (Some p) e b eb = bad_first _ w ws (doomed_turn h w p f (apart_long w p e) e)
    go None e false eb =
        let plain = no_hyphen w eb (sym (long_is w) ∙ e) in
        bad_first _ w ws (stray_turn h w (apart_plain w plain) e (short_plain w plain))
    go None e true eb = absurd (true≢false (sym (rw eb refl) ∙ odd))

settle_pushed : (h : Held) (key : Key) (w : Text) → settle_fault rules false
    (record h { pending = Some (name_of key, w ∷ []) }) ≡ use_fault false (rule_of key) (w ∷ []) h.rows
settle_pushed h Rate w = refl
settle_pushed h _ w = refl

rows_pushed : (h : Held) (key : Key) (w : Text)
    → (settled rules (record h { pending = Some (name_of key, w ∷ []) })).rows ≡ used (rule_of key) (w ∷ []) h.rows
rows_pushed h Rate w = refl
rows_pushed h _ w = refl

attached_step : (w : Text) (ws : List Text) (next : Option Key → Given → Option Given) → Rest ws next
    → (h : Held) (g : Given) → State None h g
    → (n v : Text) (key : Key) → long_of w ≡ Some (n, Some v) → arg_by_long rules n ≡ Some (rule_of key)
    → Result (w ∷ ws) (at h idle) (put_then next key v g)
attached_step w ws next rest h g st n v key e is_arg = go (put key v g) (putting (settled rules h).rows key v g st.1)
  where
    go : (o : Option Given) → Puts (settled rules h).rows key v o
        → Result (w ∷ ws) (at h idle) (option_and_then (next None) o)
    go _ (Again f) = bad_first _ w ws
        (subst Faulty (sym (attached_turn h key w n v (apart_long w _ e) e is_arg)) (faulty_next _ _ st.0 f))
    go _ (Fresh g' clear tells) =
        onward _ _ w ws _ (attached_turn h key w n v (apart_long w _ e) e is_arg ∙ ap₂ or_else st.0 clear)
        (attached_walked h key w n v (apart_long w _ e) e is_arg)
        (rest None (reacted rules (rule_of key) (v ∷ []) h) g' (refl, tells))

key_step : (w : Text) (ws : List Text) (next : Option Key → Given → Option Given) → Rest ws next
    → (h : Held) (g : Given) → State None h g
    → (n : Text) (v : Option Text) (k : Option Key) → long_of w ≡ Some (n, v) → Names n k
    → Result (w ∷ ws) (at h idle) (key_met next k v g)
key_step w ws next rest h g st n v _ e (Unknown none) =
    bad_first _ w ws (unknown_turn h w n v (apart_long w _ e) e none)
key_step w ws next rest h g st n (Some v) _ e (Known key is_arg) = attached_step w ws next rest h g st n v key e is_arg
key_step w ws next rest h g st n None _ e (Known key is_arg) =
    onward _ _ w ws _ (alone_turn h key w n (apart_long w _ e) e is_arg ∙ st.0)
    (alone_walked h key w n (apart_long w _ e) e is_arg) (rest (Some key) (held_for h key) g (refl, st.1))

value_step : (w : Text) (ws : List Text) (next : Option Key → Given → Option Given) → Rest ws next
    → (h : Held) (g : Given) (key : Key) → State (Some key) h g
    → list_any is_odd ws ≡ false → long_of w ≡ None → begins_with_hyphen w ≡ false
    → Result (w ∷ ws) (at h (option (name_of key))) (put_then next key w g)
value_step w ws next rest h g key st odd e plain = go (put key w g) (putting h.rows key w g st.1)
  where
    go : (o : Option Given) → Puts h.rows key w o
        → Result (w ∷ ws) (at h (option (name_of key))) (option_and_then (next None) o)
    go _ (Again f) = onward _ _ w ws _ (value_turn h key w (apart_plain w plain) e (short_plain w plain))
        (value_walked h key w st.0 (apart_plain w plain) e (short_plain w plain))
        (doomed ws _ odd (subst Faulty (sym (settle_pushed h key w)) f))
    go _ (Fresh g' clear tells) = onward _ _ w ws _ (value_turn h key w (apart_plain w plain) e (short_plain w plain))
        (value_walked h key w st.0 (apart_plain w plain) e (short_plain w plain))
        (rest None _ g' (
          settle_pushed h key w ∙ clear,
          subst (λ rows. Tells rows g') (sym (rows_pushed h key w)) tells,
        ))

step : (w : Text) (ws : List Text) (next : Option Key → Given → Option Given) → Rest ws next
    → list_any is_odd ws ≡ false → is_odd w ≡ false
    → (waits : Option Key) (h : Held) (g : Given) → State waits h g
    → Result (w ∷ ws) (at h (waiting_for waits)) (word_met next w waits g)
step w ws next rest odd odd_word None h g st = go (option_in w) refl
  where
    go : (o : Option (Text × Option Text)) → option_in w ≡ o → Result (w ∷ ws) (at h idle) (option_met next o g)
    go (Some p) e = key_step w ws next rest h g st p.0 p.1 (key_of p.0) (long_is w ∙ e) (names p.0)
    go None e =
        let plain = no_hyphen w odd_word e in
        bad_first _ w ws (stray_turn h w (apart_plain w plain) (long_is w ∙ e) (short_plain w plain))
step w ws next rest odd odd_word (Some key) h g st = go (option_in w) refl
  where
    go : (o : Option (Text × Option Text)) → option_in w ≡ o
        → Result (w ∷ ws) (at h (option (name_of key))) (value_met next key w g)
    go (Some p) e = rw e (bad_first _ w ws (eager_turn h key w p st.0 (apart_long w p (long_is w ∙ e)) (long_is w ∙ e)))
    go None e = rw e (value_step w ws next rest h g key st odd (long_is w ∙ e) (no_hyphen w odd_word e))

first_odd : (w : Text) (ws : List Text) → list_any is_odd (w ∷ ws) ≡ false → is_odd w ≡ false
first_odd w ws e = go (is_odd w) refl
  where
    go : (b : Bool) → is_odd w ≡ b → is_odd w ≡ false
    go false hit = hit
    go true hit = absurd (true≢false (sym (rw hit refl) ∙ e))

pub rest_odd : (w : Text) (ws : List Text) → list_any is_odd (w ∷ ws) ≡ false → list_any is_odd ws ≡ false
rest_odd w ws e = sym (rw (first_odd w ws e) refl) ∙ e

pub run : (ws : List Text) → list_any is_odd ws ≡ false → Rest ws (options_of ws)
run [] odd None h g st = Done h g (walk_nil _) refl st.0 st.1
run [] odd (Some key) h g st = Late h (option (name_of key)) (walk_nil _) refl (waits_settle h key st.0)
run (w ∷ ws) odd waits h g st =
    step w ws (options_of ws) (run ws (rest_odd w ws odd)) (rest_odd w ws odd) (first_odd w ws odd) waits h g st
