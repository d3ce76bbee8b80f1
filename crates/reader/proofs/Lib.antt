mod HalfLaws
