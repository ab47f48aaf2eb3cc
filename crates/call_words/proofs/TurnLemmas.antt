-- What clap makes of one word, in each state.
use Rattle.std.proofs.Common.{◌≡◌, ◌∙◌, Bool, true, false, refl, sym, [], ◌∷◌, Option, Some, None, codes, true≢false}
use Rattle.std.proofs.Common.{◌&&◌, ◌==◌}
use Rattle.std.specs.Str.{bytes_eq}
use Rattle.clap.specs.Walk.{Held, idle, option, arg_by_long, walked, reacted, settled}
use Rattle.clap.specs.Lexer.{long_of, short_of}
use Rattle.clap.specs.Faults.{settle_fault, react_fault, turn_fault, long_fault}
use Rattle.call_words.specs.Texts.{Text, begins_with_hyphen, is_odd, option_in}
use Rattle.call_words.specs.Options.{Key, Rate, Block, Depth, key_of}
use Rattle.call_words.proofs.NewOptions.{shape, rules, at, or_else_none, some≢none, Faulty, faulty_first, name_of}
use Rattle.call_words.proofs.NewOptions.{rule_of}
use Rattle.clap.specs.declared.error.kind.ErrorKind.TheVariants as kind

-- the option that a name names
pub data Names (n : Text) : Option Key → Type 0 where
  Known : (key : Key) → arg_by_long rules n ≡ Some (rule_of key) → Names n (Some key)
  Unknown : arg_by_long rules n ≡ None → Names n None

pub names : (n : Text) → Names n (key_of n)
names n = go (bytes_eq (codes "rate") n) (bytes_eq (codes "block") n) (bytes_eq (codes "depth") n) refl refl refl
  where
    go : (a b c : Bool) → bytes_eq (codes "rate") n ≡ a → bytes_eq (codes "block") n ≡ b
        → bytes_eq (codes "depth") n ≡ c → Names n (key_of n)
    go true b c ea eb ec = rw ea (Known Rate (rw ea refl))
    go false true c ea eb ec = rw ea (rw eb (Known Block (rw ea (rw eb refl))))
    go false false true ea eb ec = rw ea (rw eb (rw ec (Known Depth (rw ea (rw eb (rw ec refl))))))
    go false false false ea eb ec = rw ea (rw eb (rw ec (Unknown (rw ea (rw eb (rw ec refl))))))

pub unknown_turn : (h : Held) (w n : Text) (v : Option Text) → bytes_eq w (45 ∷ 45 ∷ []) ≡ false
    → long_of w ≡ Some (n, v)
    → arg_by_long rules n ≡ None → Faulty (turn_fault shape [] (at h idle) w)
unknown_turn h w n v apart is_long is_arg = (kind.UnknownArgument, [], rw apart (rw is_long (rw is_arg refl)))

pub attached_turn : (h : Held) (key : Key) (w n v : Text) → bytes_eq w (45 ∷ 45 ∷ []) ≡ false
    → long_of w ≡ Some (n, Some v)
    → arg_by_long rules n ≡ Some (rule_of key)
    → turn_fault shape [] (at h idle) w ≡ react_fault rules false (rule_of key) (v ∷ []) h
attached_turn h Rate w n v apart is_long is_arg = rw apart (rw is_long (rw is_arg (or_else_none _)))
attached_turn h _ w n v apart is_long is_arg = rw apart (rw is_long (rw is_arg (or_else_none _)))

pub attached_walked : (h : Held) (key : Key) (w n v : Text) → bytes_eq w (45 ∷ 45 ∷ []) ≡ false
    → long_of w ≡ Some (n, Some v)
    → arg_by_long rules n ≡ Some (rule_of key)
    → walked rules [] (at h idle) w ≡ at (reacted rules (rule_of key) (v ∷ []) h) idle
unfolding walked
attached_walked h Rate w n v apart is_long is_arg = rw apart (rw is_long (rw is_arg refl))
attached_walked h _ w n v apart is_long is_arg = rw apart (rw is_long (rw is_arg refl))

pub alone_turn : (h : Held) (key : Key) (w n : Text) → bytes_eq w (45 ∷ 45 ∷ []) ≡ false → long_of w ≡ Some (n, None)
    → arg_by_long rules n ≡ Some (rule_of key) → turn_fault shape [] (at h idle) w ≡ settle_fault rules false h
alone_turn h Rate w n apart is_long is_arg = rw apart (rw is_long (rw is_arg (or_else_none _)))
alone_turn h _ w n apart is_long is_arg = rw apart (rw is_long (rw is_arg (or_else_none _)))

abbrev pub held_for : Held → Key → Held
held_for h key = record (settled rules h) { pending = Some (name_of key, []) }

pub alone_walked : (h : Held) (key : Key) (w n : Text) → bytes_eq w (45 ∷ 45 ∷ []) ≡ false → long_of w ≡ Some (n, None)
    → arg_by_long rules n ≡ Some (rule_of key)
    → walked rules [] (at h idle) w ≡ at (held_for h key) (option (name_of key))
unfolding walked
alone_walked h Rate w n apart is_long is_arg = rw apart (rw is_long (rw is_arg refl))
alone_walked h _ w n apart is_long is_arg = rw apart (rw is_long (rw is_arg refl))

-- a word that is no option, where none waits
pub stray_turn : (h : Held) (w : Text) → bytes_eq w (45 ∷ 45 ∷ []) ≡ false → long_of w ≡ None → short_of w ≡ None
    → Faulty (turn_fault shape [] (at h idle) w)
stray_turn h w apart no_long no_short = (kind.UnknownArgument, [], rw apart (rw no_long (rw no_short refl)))

-- where what is pending fails, an option fails too
eager_long : (h : Held) (n : Text) (v : Option Text) (k : Option Key) → Faulty (settle_fault rules false h) → Names n k
    → Faulty (long_fault rules false (arg_by_long rules n) v h)
eager_long h n v _ f (Unknown e) = (kind.UnknownArgument, [], rw e refl)
eager_long h n None _ f (Known Rate e) = rw e f
eager_long h n None _ f (Known _ e) = rw e f
eager_long h n (Some v) _ f (Known Rate e) = rw e (faulty_first _ _ f)
eager_long h n (Some v) _ f (Known _ e) = rw e (faulty_first _ _ f)

pub doomed_turn : (h : Held) (w : Text) (p : Text × Option Text) → Faulty (settle_fault rules false h)
    → bytes_eq w (45 ∷ 45 ∷ []) ≡ false
    → long_of w ≡ Some p → Faulty (turn_fault shape [] (at h idle) w)
doomed_turn h w p f apart is_long =
    rw apart (rw is_long (faulty_first _ _ (eager_long h p.0 p.1 (key_of p.0) f (names p.0))))

pub waits_settle : (h : Held) (key : Key) → h.pending ≡ Some (name_of key, []) → Faulty (settle_fault rules false h)
waits_settle h Rate e = (kind.InvalidValue, [], rw e refl)
waits_settle h _ e = (kind.InvalidValue, [], rw e refl)

-- an option, where a value is waited for
pub eager_turn : (h : Held) (key : Key) (w : Text) (p : Text × Option Text) → h.pending ≡ Some (name_of key, [])
    → bytes_eq w (45 ∷ 45 ∷ []) ≡ false
    → long_of w ≡ Some p → Faulty (turn_fault shape [] (at h (option (name_of key))) w)
eager_turn h key w p pending apart is_long =
    rw apart
    (rw is_long (faulty_first _ _ (eager_long h p.0 p.1 (key_of p.0) (waits_settle h key pending) (names p.0))))

pub value_turn : (h : Held) (key : Key) (w : Text) → bytes_eq w (45 ∷ 45 ∷ []) ≡ false → long_of w ≡ None
    → short_of w ≡ None
    → turn_fault shape [] (at h (option (name_of key))) w ≡ []
value_turn h Rate w apart no_long no_short = rw apart (rw no_long (rw no_short refl))
value_turn h _ w apart no_long no_short = rw apart (rw no_long (rw no_short refl))

pub value_walked : (h : Held) (key : Key) (w : Text) → h.pending ≡ Some (name_of key, [])
    → bytes_eq w (45 ∷ 45 ∷ []) ≡ false → long_of w ≡ None → short_of w ≡ None
    → walked rules [] (at h (option (name_of key))) w ≡ at (record h { pending = Some (name_of key, w ∷ []) }) idle
unfolding walked
value_walked h Rate w pending apart no_long no_short = rw apart (rw no_long (rw no_short (rw pending refl)))
value_walked h _ w pending apart no_long no_short = rw apart (rw no_long (rw no_short (rw pending refl)))

and_false : (b : Bool) → (b && false) ≡ false
and_false true = refl
and_false false = refl

pub apart_long : (w : Text) (p : Text × Option Text) → long_of w ≡ Some p → bytes_eq w (45 ∷ 45 ∷ []) ≡ false
apart_long [] p e = refl
apart_long (x ∷ []) p e = and_false (x == 45)
apart_long (x ∷ y ∷ []) p e = go (x == 45) (y == 45) refl refl
  where
    go : (a b : Bool) → (x == 45) ≡ a → (y == 45) ≡ b → ((x == 45) && ((y == 45) && true)) ≡ false
    go false b ea eb = rw ea refl
    go true false ea eb = rw ea (rw eb refl)
    go true true ea eb = absurd (some≢none p (sym e ∙ rw ea (rw eb refl)))
apart_long (x ∷ y ∷ z ∷ rest) p e = go (x == 45) (y == 45)
  where
    go : (a b : Bool) → (a && (b && false)) ≡ false
    go true b = and_false b
    go false b = refl

-- `--NAME` and `--NAME=VALUE` are what clap takes for them
pub long_is : (w : Text) → long_of w ≡ option_in w
long_is [] = refl
long_is (a ∷ []) = go (a == 45) refl
  where
    go : (x : Bool) → (a == 45) ≡ x → long_of (a ∷ []) ≡ None
    go true e = rw e refl
    go false e = rw e refl
long_is (a ∷ b ∷ []) = go (a == 45) (b == 45) refl refl
  where
    go : (x y : Bool) → (a == 45) ≡ x → (b == 45) ≡ y → long_of (a ∷ b ∷ []) ≡ None
    go true true e f = rw e (rw f refl)
    go true false e f = rw e (rw f refl)
    go false y e f = rw e refl
long_is (a ∷ b ∷ c ∷ rest) = go (a == 45) (b == 45) refl refl
  where
    go : (x y : Bool) → (a == 45) ≡ x → (b == 45) ≡ y → long_of (a ∷ b ∷ c ∷ rest) ≡ option_in (a ∷ b ∷ c ∷ rest)
    go true true e f = rw e (rw f refl)
    go true false e f = rw e (rw f refl)
    go false y e f = rw e refl

pub no_hyphen : (w : Text) → is_odd w ≡ false → option_in w ≡ None → begins_with_hyphen w ≡ false
no_hyphen w odd no_option = go (begins_with_hyphen w) refl
  where
    go : (b : Bool) → begins_with_hyphen w ≡ b → begins_with_hyphen w ≡ false
    go false e = e
    go true e = absurd (true≢false (sym (rw e (rw no_option refl)) ∙ odd))

pub apart_plain : (w : Text) → begins_with_hyphen w ≡ false → bytes_eq w (45 ∷ 45 ∷ []) ≡ false
apart_plain [] e = refl
apart_plain (x ∷ xs) e = rw e refl

pub short_plain : (w : Text) → begins_with_hyphen w ≡ false → short_of w ≡ None
short_plain [] e = refl
short_plain (x ∷ xs) e = rw e refl
